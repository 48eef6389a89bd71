mod Passed
mod Taking
mod Siblings
mod Fronting
pub mod Joining

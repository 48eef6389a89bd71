pub mod Evaluated
pub mod Longest

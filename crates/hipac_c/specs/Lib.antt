pub mod Kept
pub mod Handles
pub mod Exports

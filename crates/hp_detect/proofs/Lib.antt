pub mod Runs
pub mod Steps
pub mod Compared
pub mod Along
pub mod Heights
pub mod Counted

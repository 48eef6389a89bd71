pub mod Running
pub mod Kept
pub mod Ends
pub mod Outcomes
pub mod Sessions

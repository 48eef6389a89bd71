pub mod Gathered
pub mod Coursing
pub mod Ended
pub mod Cascading
pub mod Attempted
pub mod Keeping
pub mod AllRan

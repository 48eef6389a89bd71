pub mod Rows
pub mod Lists
pub mod Answered
pub mod Sizes
pub mod Told

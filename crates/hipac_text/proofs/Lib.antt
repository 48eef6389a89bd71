pub mod Longest
pub mod Parsed
pub mod TwoWords
pub mod Written

pub mod Words
pub mod CheckWords

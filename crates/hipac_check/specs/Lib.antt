pub mod Asked
pub mod Ends
pub mod Outputs
pub mod Words
pub mod Spots
pub mod Scripts

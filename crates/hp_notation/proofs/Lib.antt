pub mod Placed
pub mod WithPlaces
pub mod Told
pub mod Longest

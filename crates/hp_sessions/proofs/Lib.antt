pub mod Fronts
pub mod Moves
pub mod Legal
pub mod Crossing

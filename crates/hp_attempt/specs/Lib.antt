pub mod Mapped
pub mod Holding
pub mod Fronts

pub mod Mapped
pub mod Readings

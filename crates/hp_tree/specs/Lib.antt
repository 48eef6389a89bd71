pub mod Names
pub mod Mapped

pub mod Mapped
pub mod Same

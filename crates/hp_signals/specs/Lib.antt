pub mod Signals
pub mod Mapped
pub mod OfBytes
pub mod Exits

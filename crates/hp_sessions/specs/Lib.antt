pub mod Units
pub mod Mapped
pub mod Tokens
pub mod Kept
pub mod Books

pub mod Given
pub mod Performs
pub mod Reading
pub mod Notified
pub mod Stepped
pub mod Triggers

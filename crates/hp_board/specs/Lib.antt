pub mod Deal
pub mod Passes
pub mod Boards
pub mod Groups
pub mod GroupFields
pub mod Mapped

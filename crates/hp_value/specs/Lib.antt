pub mod Rows
pub mod Same
pub mod SameExpressions
pub mod Mapped

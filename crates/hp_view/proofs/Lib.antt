pub mod SameClass
pub mod Reading
mod PartsApart
mod Noting
pub mod Greatest
mod Undoing
mod Looking
mod Wholes
pub mod Adding
mod PartsRead
pub mod Views
pub mod Counting

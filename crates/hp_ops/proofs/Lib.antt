pub mod Worlds
mod Adding
mod GivenRows
mod Operating
mod Ruling
mod Notices
mod Triggering

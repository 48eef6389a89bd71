pub mod Lines
pub mod Readings
pub mod Checked
pub mod Live
pub mod Laws
pub mod Journal
pub mod Snapshots
pub mod Sound

pub mod Bases
pub mod Fed
pub mod Asked
pub mod Replied

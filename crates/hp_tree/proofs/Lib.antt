pub mod ByName
pub mod Trees

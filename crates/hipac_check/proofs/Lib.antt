pub mod Found
pub mod Written
pub mod Longest
pub mod RuleLines
pub mod Checked
pub mod Pushed

pub mod Totals
pub mod Draws
pub mod Passes
pub mod Settlings
pub mod GroupMoves
pub mod GroupSteps

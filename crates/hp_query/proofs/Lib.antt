pub mod RowLemmas
pub mod SelectLemmas
mod CollectLemmas
pub mod PlainLemmas
pub mod VerdictLemmas
mod TurnLemmas
pub mod ByKeyLemmas
pub mod PartLemmas
pub mod AskedLemmas
mod CandidateLemmas
mod TermLemmas
mod EndLemmas

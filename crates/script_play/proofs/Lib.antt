pub mod TurnLemmas
pub mod TookLemmas
pub mod WorldLemmas
pub mod ChoiceLemmas

pub mod RowLemmas
pub mod AgreeLemmas
pub mod ChoiceLemmas
pub mod ValidLemmas
pub mod SupportLemmas

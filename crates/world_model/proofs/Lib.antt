pub mod RunLemmas
pub mod SeenLemmas
pub mod TurnLemmas

pub mod WorldLemmas
pub mod TurnLemmas
pub mod ReadLemmas

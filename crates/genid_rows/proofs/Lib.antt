pub mod PlaceLemmas
pub mod OwnLemmas
pub mod InTurnLemmas

pub mod TouchLemmas
pub mod UsedLemmas

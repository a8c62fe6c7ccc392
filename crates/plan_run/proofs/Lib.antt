pub mod PlanWalkLemmas
pub mod ReachLemmas
pub mod FoldLemmas
pub mod LyingLemmas
pub mod SameLemmas
pub mod TriedLemmas
pub mod OwnLemmas

pub mod JoinedLemmas
pub mod LevelLemmas
pub mod StepLemmas
pub mod TopLaws
pub mod WholeLemmas

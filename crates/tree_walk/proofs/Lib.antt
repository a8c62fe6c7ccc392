pub mod WalkLemmas
pub mod StepLemmas
pub mod DepthLemmas
pub mod WrittenLaws

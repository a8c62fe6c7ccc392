pub mod CombinationLaws
pub mod LaidLemmas
pub mod SeenLemmas
pub mod StepLemmas

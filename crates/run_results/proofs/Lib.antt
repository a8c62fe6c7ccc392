pub mod FinishedLaws
pub mod StepLaws

pub mod AdmitLaws
pub mod StepLaws
pub mod LoopLaws
pub mod MakeLaws
pub mod OrderLaws
pub mod TurnLaws

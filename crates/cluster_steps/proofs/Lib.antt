pub mod TellsLaws
pub mod FoundLaws
pub mod StepLaws
pub mod NameLaws
pub mod StaysLaws
pub mod OwnLaws

pub mod SendLaws
pub mod SettledLaws
pub mod LearnLaws
pub mod GenerationLaws

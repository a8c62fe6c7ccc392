pub mod OriginLaws
pub mod SourceLaws

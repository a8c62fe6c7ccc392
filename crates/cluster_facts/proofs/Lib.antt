pub mod LongestLog
pub mod SourceLaws
pub mod ToldLaws
pub mod StoresLeft

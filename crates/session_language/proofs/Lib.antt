pub mod AllLaws
pub mod AnswerLaws
pub mod EachLaws
pub mod RowsLaws
pub mod SerialLaws
pub mod SoundLaws
pub mod UpToLaws
pub mod UsedLaws

pub mod AgreeLaws
pub mod AskLaws
pub mod BeginLaws
pub mod EntryLaws
pub mod NumberLaws
pub mod OutcomeLaws
pub mod ToldLaws

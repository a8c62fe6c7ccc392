pub mod EntryLaws
pub mod RestLemmas
pub mod SizeLaws
pub mod TableLaws

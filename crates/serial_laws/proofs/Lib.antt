pub mod ChangedLemmas
pub mod ReadingLemmas
pub mod SerialLemmas
pub mod SqlLemmas

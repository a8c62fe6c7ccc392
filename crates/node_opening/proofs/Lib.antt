pub mod OpenedLemmas
pub mod RestLemmas
pub mod StandLemmas
pub mod TableLemmas
pub mod UpLemmas

pub mod NameLemmas
pub mod ReadingLemmas
pub mod StandInLemmas
pub mod TableLaws
pub mod TokenNameLaws
pub mod WorkedLemmas
pub mod WrittenNameLaws

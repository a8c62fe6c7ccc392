pub mod LanguageLemmas
pub mod OrderLaws
pub mod ReadingLemmas
pub mod SeenLemmas

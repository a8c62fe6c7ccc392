pub mod BaseLemmas
pub mod CourseLemmas
pub mod ItemLemmas
pub mod OwnLemmas
pub mod RepeatLemmas
pub mod TouchedLemmas

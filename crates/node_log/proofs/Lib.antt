mod EntryLemmas
mod FrameLemmas
mod PromiseLemmas
pub mod SameLaws
mod SpelledLemmas
mod StandLemmas
pub mod StepLemmas
mod TakeLemmas

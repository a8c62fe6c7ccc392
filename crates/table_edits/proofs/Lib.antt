pub mod ListLemmas
mod GenidLemmas
mod StateLemmas
pub mod FitLemmas
mod ForestLemmas
mod KeptLemmas
mod StepLemmas
pub mod BrokenLemmas
mod PassLemmas
mod EndLemmas
mod FreedLemmas
mod FilledLemmas

pub mod RowLemmas
pub mod TouchLemmas
pub mod BrokenLemmas
pub mod DecideLemmas
pub mod KeptLemmas
pub mod TextLemmas
pub mod PlayLemmas

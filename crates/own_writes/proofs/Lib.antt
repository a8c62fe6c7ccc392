pub mod ColumnLemmas
pub mod KeptLemmas
pub mod MarkLemmas
pub mod OutLemmas
pub mod PlaceLemmas

pub mod CornerTerms
pub mod OpeningFacts
pub mod Refused
pub mod RowTerms
pub mod StoreLemmas

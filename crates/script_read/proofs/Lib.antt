pub mod KindLemmas
pub mod LawLemmas
pub mod LimitLemmas
pub mod NameLemmas
pub mod ReadLemmas
pub mod TestLemmas
pub mod TextLemmas
pub mod WorkedLemmas

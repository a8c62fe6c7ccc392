pub mod AmongLaws
mod ApplyLemmas
pub mod BeginLaws
pub mod BrokenLaws
pub mod ForestLaws
mod GoodLemmas
pub mod KeptLaws
pub mod ListingLaws
pub mod OperationLemmas
pub mod ReadLaws
pub mod RisingLaws
pub mod StateLaws
mod TreeLemmas
mod WorkedLemmas

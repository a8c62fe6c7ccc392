pub mod ChangeLaws
pub mod KeyLemmas
pub mod NameLemmas
pub mod ViewLaws

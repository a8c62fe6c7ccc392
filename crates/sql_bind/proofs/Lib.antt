pub mod LevelLemmas
pub mod ListLemmas
pub mod PartLemmas
pub mod BindingLemmas
pub mod SelectLemmas

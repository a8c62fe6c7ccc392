pub mod KeptLemmas
pub mod UndoLaws
pub mod PositionLemmas
pub mod PutLemmas

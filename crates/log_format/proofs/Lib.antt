pub mod CountLemmas
pub mod ListLemmas
pub mod PartReads
pub mod PutLemmas
pub mod EntryReads
pub mod FrameReads

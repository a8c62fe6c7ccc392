pub mod FormLaws
pub mod PartLaws
pub mod EntryLaws
pub mod FrameLaws
pub mod FrontLaws

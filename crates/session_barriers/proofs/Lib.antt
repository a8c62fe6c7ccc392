pub mod SplitLaws
pub mod LineLaws
pub mod WaitLaws

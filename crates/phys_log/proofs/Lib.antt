pub mod ReplayLaws
pub mod LogLaws

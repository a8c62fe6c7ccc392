pub mod LedgerLaws
pub mod HistoryLaws
pub mod CommitLaws
pub mod BookLaws
pub mod GivenLaws
pub mod IndexLaws

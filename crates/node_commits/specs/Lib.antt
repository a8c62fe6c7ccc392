pub mod Indexes
pub mod Ledgers
pub mod Asked
pub mod Commits

pub mod ConflictLaws
pub mod ConflictLemmas
pub mod OperationLemmas
pub mod AbleLemmas
pub mod EntryLemmas
pub mod IdentityLemmas
pub mod ChangedLemmas
pub mod ChangedLaws

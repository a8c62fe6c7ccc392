pub mod Decided
pub mod Walks

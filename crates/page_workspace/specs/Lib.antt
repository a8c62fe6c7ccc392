pub mod Chains
pub mod Drafts
pub mod Metas
pub mod Owned
pub mod Spare
pub mod Takes

pub mod Chains
pub mod Kept
pub mod Answers
pub mod Blanks
pub mod Exchanges

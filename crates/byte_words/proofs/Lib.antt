pub mod ByteLemmas
pub mod LineLaws
pub mod NumberLemmas

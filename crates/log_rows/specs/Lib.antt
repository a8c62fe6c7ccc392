pub mod Applied
pub mod History
pub mod Setups
pub mod Sizes
pub mod Sources

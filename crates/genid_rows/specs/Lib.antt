pub mod Targets
pub mod InTurn

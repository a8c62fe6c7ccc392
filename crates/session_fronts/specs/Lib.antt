pub mod Fronts
pub mod Rounds

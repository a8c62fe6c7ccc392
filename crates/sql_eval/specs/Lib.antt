pub mod Folds
pub mod Gives
pub mod Groups
pub mod Projections
pub mod Shaped
pub mod Tallies
pub mod Views

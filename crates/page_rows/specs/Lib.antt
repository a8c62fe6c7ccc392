pub mod Bounds
pub mod Picks
pub mod Listed
pub mod OneState
pub mod Standing

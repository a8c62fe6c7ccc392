pub mod Peers
pub mod Elections
pub mod Deeds
pub mod OneStore
pub mod Openings
pub mod Tail
pub mod Played

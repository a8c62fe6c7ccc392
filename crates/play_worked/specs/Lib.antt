pub mod Stores
pub mod Plays

pub mod Logged
pub mod Same
pub mod Taken

pub mod Logs
pub mod Undone

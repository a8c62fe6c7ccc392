pub mod Changed
pub mod Freed

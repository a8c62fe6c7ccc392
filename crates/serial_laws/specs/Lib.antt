pub mod Changed
pub mod Histories
pub mod Worked

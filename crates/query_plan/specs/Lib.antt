pub mod Planned
pub mod Views

pub mod Net
pub mod Slots
pub mod Steps

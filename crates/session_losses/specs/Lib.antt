pub mod Falls
pub mod Seen

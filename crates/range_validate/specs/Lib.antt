pub mod Touches
pub mod Used

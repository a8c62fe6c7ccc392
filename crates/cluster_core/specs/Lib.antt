pub mod Blank
pub mod Kept
pub mod Known

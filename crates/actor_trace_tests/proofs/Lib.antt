pub mod Numbered
pub mod Passing

pub mod Numbered
pub mod Alike

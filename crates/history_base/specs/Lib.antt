pub mod Sizes
pub mod Tail

pub mod Tail
pub mod Told

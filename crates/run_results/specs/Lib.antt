pub mod Finished
pub mod Stores

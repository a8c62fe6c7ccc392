pub mod Brought
pub mod Stores

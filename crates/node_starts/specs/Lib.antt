pub mod News
pub mod Admits
pub mod Starts
pub mod Order
pub mod Turns

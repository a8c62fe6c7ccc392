pub mod Faults
pub mod Parts
pub mod Plans
pub mod Stores
pub mod Objects
pub mod Consumers
pub mod Stops

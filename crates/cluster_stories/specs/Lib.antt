pub mod Failover
pub mod Story

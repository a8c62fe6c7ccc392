pub mod Committed
pub mod Durable
pub mod Enabled
pub mod Events
pub mod Facts
pub mod Histories
pub mod Shipped
pub mod ThreeNodes

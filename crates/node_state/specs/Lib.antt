pub mod Calls
pub mod Commits
pub mod Nodes
pub mod Packets
pub mod Restarts
pub mod Ships
pub mod Stores

pub mod Failover
pub mod Story
pub mod WrongHistories
pub mod WrongMoves
pub mod WrongGuards

pub mod InOrder
pub mod OneStore
pub mod Refusals

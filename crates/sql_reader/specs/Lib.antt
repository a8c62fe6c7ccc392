pub mod Ending
pub mod Gives
pub mod Promise
pub mod Stops

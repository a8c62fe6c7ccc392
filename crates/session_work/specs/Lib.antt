pub mod Work
pub mod Seats

pub mod Plans
pub mod Seats
pub mod Offices
pub mod Asking

pub mod Codes
pub mod Fronts
pub mod Spelled
pub mod Tells

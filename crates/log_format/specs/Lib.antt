pub mod Envelopes
pub mod Lists
pub mod Readings
pub mod Wholes

pub mod Best
pub mod Falls
pub mod Reported

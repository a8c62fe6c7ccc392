pub mod Known
pub mod OfLogs
pub mod Kept

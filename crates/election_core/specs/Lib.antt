pub mod Allowed
pub mod Counted
pub mod Counts
pub mod Fits
pub mod More
pub mod Senders
pub mod Told
pub mod Without

-- The notions of the laws of reports of several nodes.
pub mod Unhurt
pub mod Watched

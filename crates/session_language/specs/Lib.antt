pub mod Answers
pub mod Each
pub mod Intervals
pub mod Language
pub mod Replies
pub mod Serial
pub mod Spelled
pub mod Touched

pub mod Fits
pub mod Genids
pub mod Broken
pub mod Halfway
pub mod Answers
pub mod Kept
pub mod Freed
pub mod Filled

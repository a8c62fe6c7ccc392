pub mod Reading
pub mod Keys
pub mod Tables
pub mod Verdict
pub mod StandIns
pub mod Answers
pub mod Named

pub mod Found
pub mod Findings
pub mod Judged
pub mod Told
pub mod OneStore
pub mod Facts

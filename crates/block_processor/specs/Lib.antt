pub mod Conflicts
pub mod Asked
pub mod Able
pub mod Decided
pub mod Versions
pub mod Changed

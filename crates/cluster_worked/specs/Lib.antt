pub mod Duplicate
pub mod Named
pub mod SetUp
pub mod Short
pub mod Whole
pub mod Words

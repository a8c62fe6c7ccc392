pub mod Changes
pub mod Columns
pub mod Good
pub mod Named
pub mod Order
pub mod Rows
pub mod Tables
pub mod Views

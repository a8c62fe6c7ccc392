pub mod Trees
pub mod Words
pub mod Grammar
pub mod Readers
pub mod Views

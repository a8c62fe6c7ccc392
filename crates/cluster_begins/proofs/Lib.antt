pub mod Fresh
pub mod Since
pub mod AfterAFall

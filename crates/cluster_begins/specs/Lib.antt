pub mod Begins
pub mod AfterAFall

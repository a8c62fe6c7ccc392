pub mod Sound
pub mod Spelled
pub mod Texts
pub mod Views

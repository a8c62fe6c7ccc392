pub mod Guards
pub mod Named

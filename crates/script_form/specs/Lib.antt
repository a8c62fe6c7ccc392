pub mod CanRun
pub mod Named

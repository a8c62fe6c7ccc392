pub mod Forms
pub mod Parts
pub mod Kinds
pub mod Faults
pub mod Laws

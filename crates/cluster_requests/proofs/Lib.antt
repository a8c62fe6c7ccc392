pub mod Settled
pub mod Shipped
pub mod StepLaws

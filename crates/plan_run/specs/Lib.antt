pub mod Keeping
pub mod PlanWalks
pub mod Sources

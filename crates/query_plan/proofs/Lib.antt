pub mod PlanLemmas
pub mod UseLaws

pub mod DecisionLaws
pub mod AskedLaws
pub mod NamedLaws
pub mod LedLaws
pub mod RefusalLaws

pub mod ChangeLaws
pub mod ConditionLaws
pub mod OperandLaws
pub mod QueryLaws
pub mod SameLaws
pub mod StatementLaws

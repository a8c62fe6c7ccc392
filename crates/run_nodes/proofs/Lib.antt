pub mod CallLaws
pub mod CloseLaws
pub mod EventLaws

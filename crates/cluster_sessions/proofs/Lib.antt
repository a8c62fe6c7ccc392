pub mod FoundLaws
pub mod KeptLaws
pub mod PingLaws
pub mod SendLaws

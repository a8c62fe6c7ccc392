pub mod PlanLaws
pub mod SeatLaws
pub mod WakeLaws
pub mod OfficeLaws
pub mod OrderLaws
pub mod AskLaws

pub mod WorkLaws
pub mod SeatLaws
pub mod RunLaws
pub mod OutcomeLaws

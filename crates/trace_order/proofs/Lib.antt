pub mod DoneLaws
pub mod TurnLaws

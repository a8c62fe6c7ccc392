pub mod DutyLaws

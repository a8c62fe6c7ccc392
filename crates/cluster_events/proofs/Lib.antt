pub mod Charges
pub mod FireLaws
pub mod HistoryLaws
pub mod LineLists
pub mod LinePlaces
pub mod Obeying
pub mod OwnLines
pub mod Stays

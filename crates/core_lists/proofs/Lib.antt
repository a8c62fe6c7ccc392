pub mod Fronts
pub mod Lasts
pub mod Lists
pub mod Majorities
pub mod Numbers

pub mod NumberLaws
pub mod ToldLaws

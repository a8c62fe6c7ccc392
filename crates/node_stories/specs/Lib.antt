pub mod Stories
pub mod StoriesWrong

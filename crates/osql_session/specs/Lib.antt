pub mod Courses
pub mod Items
pub mod Own
pub mod Requests
pub mod Sessions
pub mod Used

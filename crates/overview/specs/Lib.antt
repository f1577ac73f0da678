pub mod Course
pub mod View

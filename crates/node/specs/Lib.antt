pub mod Changes
pub mod Courses
pub mod Drafts
pub mod Values

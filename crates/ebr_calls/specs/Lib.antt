pub mod Steps
pub mod Asked
pub mod Continuation
pub mod Courses
pub mod Levels

pub mod Keeps
pub mod Levels
pub mod Beginnings

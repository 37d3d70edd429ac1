pub mod Sources
pub mod Leaving
pub mod Choices

pub mod Books
pub mod Instructions
pub mod Runs
pub mod Codes
pub mod Units

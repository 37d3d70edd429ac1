pub mod Trees
pub mod Asks
pub mod Codes
pub mod Books

pub mod Names
pub mod Columns
pub mod Headers
pub mod inside

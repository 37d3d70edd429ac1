pub mod Levels
pub mod Catching
pub mod Rows
pub mod SharedRows
pub mod Packages
pub mod inside

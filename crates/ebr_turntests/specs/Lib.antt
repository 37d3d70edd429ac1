pub mod Written
pub mod Ready
pub mod Rows

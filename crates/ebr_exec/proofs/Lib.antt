pub mod Undone
pub mod Fits
pub mod Rows

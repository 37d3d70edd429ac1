pub mod Fits
pub mod inside

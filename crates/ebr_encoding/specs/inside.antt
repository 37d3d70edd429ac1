pub mod Gives
pub mod Written
pub mod Said
pub mod Fits

pub mod Asks
pub mod Opened
pub mod Given
pub mod Held
pub mod Views
pub mod Fits
pub mod Sites
pub mod Answered

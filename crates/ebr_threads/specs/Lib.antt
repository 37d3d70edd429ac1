pub mod Booking
pub mod Seating
pub mod Run
pub mod inside

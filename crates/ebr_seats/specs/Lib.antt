pub mod Tests
pub mod Ends
pub mod Seats
pub mod inside

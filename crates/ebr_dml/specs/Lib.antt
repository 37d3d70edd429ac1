pub mod Plans
pub mod Rows
pub mod Images
pub mod Tests
pub mod Steps
pub mod inside

pub mod Chairs
pub mod inside

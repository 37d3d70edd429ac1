pub mod Fires
pub mod inside

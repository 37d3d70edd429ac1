pub mod Editions
pub mod Objects
pub mod Held
pub mod inside

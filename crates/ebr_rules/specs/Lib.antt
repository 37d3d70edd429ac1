pub mod Noted
pub mod inside

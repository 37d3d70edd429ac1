pub mod Damage
pub mod Engines
pub mod Opened
pub mod Read
pub mod inside

pub mod Chain
pub mod Held

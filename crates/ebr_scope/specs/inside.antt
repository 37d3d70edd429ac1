pub mod Nests
pub mod Kept

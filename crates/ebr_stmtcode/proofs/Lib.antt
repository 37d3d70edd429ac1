pub mod Envs
pub mod Blocks
pub mod Fields
pub mod Changes

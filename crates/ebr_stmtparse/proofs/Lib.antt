pub mod Clear
pub mod Depths
pub mod Parts

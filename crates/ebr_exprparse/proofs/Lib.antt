pub mod Clear
pub mod Depths
pub mod Whole
pub mod Ranges
pub mod Found

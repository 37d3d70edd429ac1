pub mod Clear
pub mod Parts
pub mod Whole
pub mod Entries

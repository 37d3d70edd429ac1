pub mod ReadsItem
pub mod Aliased
pub mod Aggregates
pub mod Reader
pub mod Clear
pub mod Parts

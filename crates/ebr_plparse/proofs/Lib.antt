pub mod Clear
pub mod Begins
pub mod Reader

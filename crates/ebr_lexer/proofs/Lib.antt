pub mod Scanning
pub mod Runs
pub mod Bytes
pub mod Strings
pub mod Fronts
pub mod Complete
pub mod Agreement
pub mod Spans
mod Rows

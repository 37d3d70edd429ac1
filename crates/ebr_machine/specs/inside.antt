pub mod Callees
pub mod Rows
pub mod Turns
pub mod Says

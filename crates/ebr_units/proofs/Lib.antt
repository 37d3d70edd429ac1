mod Entries
mod Kept
mod Made
pub mod Unchanged

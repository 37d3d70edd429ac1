pub mod Commits
pub mod Savepoints
pub mod Data
pub mod Reads
pub mod Conflicts
pub mod Limits
pub mod Calls
pub mod inside

pub mod Commits
pub mod Integrity
pub mod inside

pub mod Writes
pub mod Apart
pub mod Takes
pub mod Joined

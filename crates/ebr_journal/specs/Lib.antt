pub mod Journal
pub mod Keeper
pub mod Crash
pub mod Pieces
pub mod Found
pub mod Start
pub mod Begun

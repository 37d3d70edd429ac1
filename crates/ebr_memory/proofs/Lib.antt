pub mod Cuts
pub mod Places
pub mod States
pub mod Fetching

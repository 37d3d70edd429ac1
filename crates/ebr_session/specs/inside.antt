pub mod Kept
pub mod Requests
pub mod Stages
pub mod Holds

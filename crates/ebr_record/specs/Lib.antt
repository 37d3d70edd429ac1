pub mod Payload
pub mod Keeper
pub mod InMemory

pub mod Prints
pub mod Valid
pub mod Databases
pub mod Histories
pub mod Replayed

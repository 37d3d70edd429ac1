pub mod Stored
pub mod Tables
pub mod Reached
pub mod Defined
pub mod Held
pub mod Defining
pub mod Parts

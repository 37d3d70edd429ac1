pub mod Definitions
pub mod Tables
pub mod inside

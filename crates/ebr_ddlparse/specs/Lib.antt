pub mod Base
pub mod Types
pub mod Tables
pub mod Views
pub mod Definitions
pub mod Parts
pub mod inside

pub mod Expressions
pub mod Parts
pub mod inside

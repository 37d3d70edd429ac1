pub mod Operators
pub mod Evaluation
pub mod Forms
pub mod inside

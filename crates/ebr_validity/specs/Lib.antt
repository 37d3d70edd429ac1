pub mod Sites
pub mod Expressions
pub mod Embedded
pub mod Targets
pub mod Rules
pub mod Statements
pub mod Units
pub mod Verdict

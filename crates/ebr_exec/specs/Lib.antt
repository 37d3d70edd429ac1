pub mod Places
pub mod Narrow
pub mod Statements
pub mod Shows
pub mod Over

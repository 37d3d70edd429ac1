pub mod Names
pub mod Allowed
pub mod Entries
pub mod Results
pub mod ById

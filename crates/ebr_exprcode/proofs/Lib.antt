pub mod Laws
pub mod Procedures

pub mod Kinds
pub mod Catalogue
pub mod Records
pub mod Definitions
pub mod Following
pub mod Places
pub mod inside

pub mod Allowed
pub mod Consistent

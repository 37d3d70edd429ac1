pub mod Views
pub mod Members
pub mod inside

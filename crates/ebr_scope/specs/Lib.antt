pub mod Visible
pub mod Meanings
pub mod Declarations
pub mod Names
pub mod Around
pub mod Lent
pub mod inside
pub mod Nests

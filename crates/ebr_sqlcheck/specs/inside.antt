pub mod Aliases
pub mod Before
pub mod Found
pub mod Terms

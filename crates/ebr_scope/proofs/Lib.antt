pub mod Entries
pub mod Innermost
mod Before
mod Shown
mod Outer
mod Examples
mod Items

pub mod Items
pub mod Productions
pub mod Statements
pub mod Parts
pub mod inside

pub mod Statements
pub mod Pieces

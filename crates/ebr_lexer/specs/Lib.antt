pub mod Symbols
pub mod Lexis
pub mod Extents
pub mod Reading
pub mod inside

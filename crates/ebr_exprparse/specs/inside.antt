pub mod Reading
pub mod Nests
pub mod Words

pub mod Counted
pub mod ToldLemmas
mod Examples

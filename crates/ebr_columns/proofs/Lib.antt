pub mod TableTrees
pub mod Distinct

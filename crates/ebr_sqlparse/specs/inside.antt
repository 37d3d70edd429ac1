pub mod Aliased

pub mod Laws
pub mod Within
pub mod Blocks
pub mod Parts
mod Validity
mod Defined
mod Distinct
mod Exceptions
mod FullNames

pub mod Laws
pub mod EachSite
pub mod Least
mod Examples

pub mod Under
pub mod Works

pub mod Founds
pub mod Joined
pub mod Locking
pub mod Numbers
pub mod Streams
pub mod Terms

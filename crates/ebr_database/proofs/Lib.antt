pub mod Keeping
pub mod Goes
pub mod AllStays
mod Kept
mod Pushes
mod ReadsBack
mod Examples

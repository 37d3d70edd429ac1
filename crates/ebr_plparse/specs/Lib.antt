pub mod Productions
pub mod Heads
pub mod Packages
pub mod Triggers
pub mod Units

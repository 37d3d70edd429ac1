mod Runs
mod Sessions
mod Crossing
pub mod Living
pub mod Placing
pub mod Sitting
pub mod Telling

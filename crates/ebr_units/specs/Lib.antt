pub mod Served
pub mod Living
pub mod inside

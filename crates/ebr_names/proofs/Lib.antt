pub mod Halving
mod Rising

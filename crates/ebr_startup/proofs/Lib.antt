mod Gates
mod Walking
pub mod Files
mod Resting
mod Opening
mod Steps
mod Reading

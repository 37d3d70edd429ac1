pub mod Frames
pub mod Done

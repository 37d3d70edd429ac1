pub mod Layers
pub mod Examples

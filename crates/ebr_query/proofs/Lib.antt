pub mod Added
pub mod ByNumber
pub mod Examples
mod FirstSource
pub mod Founds
pub mod Layers
pub mod Plainly
pub mod Products
pub mod Ranks
pub mod Rising
pub mod SeenRows
pub mod Sorting
pub mod Streaming

pub mod Lines
pub mod Heads
pub mod Sections
pub mod Scans
pub mod Reading
pub mod inside

pub mod LeftByCrash
pub mod Crash
pub mod DiskOfBytes

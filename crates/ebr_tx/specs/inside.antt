pub mod Keys
pub mod Sound
pub mod Filed
pub mod Marked
pub mod Loading

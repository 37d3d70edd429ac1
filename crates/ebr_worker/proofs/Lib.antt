mod Ending
pub mod First
pub mod Histories
pub mod Keeping
mod Outputs
pub mod OverEngine
mod Rehearsing
mod Replying
mod RunAlone
pub mod Running
pub mod Turns

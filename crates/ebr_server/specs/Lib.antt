pub mod Program
pub mod Disks
pub mod Handed
pub mod Exit
pub mod inside

pub mod Memory
pub mod Rehearsal
pub mod Worker

pub mod Taking
pub mod Writing
pub mod RowLemmas
pub mod Known
pub mod Going
pub mod Stepping
pub mod Examples

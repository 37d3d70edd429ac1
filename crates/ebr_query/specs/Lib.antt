pub mod Places
pub mod Rows
pub mod Seen
pub mod Order
pub mod Aggregated
pub mod Results
pub mod Queries
pub mod inside

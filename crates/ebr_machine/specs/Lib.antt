pub mod Has
pub mod inside

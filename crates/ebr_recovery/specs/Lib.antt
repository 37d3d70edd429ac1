pub mod Recovery
pub mod inside

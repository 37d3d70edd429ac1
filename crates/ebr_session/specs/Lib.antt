pub mod Sessions
pub mod Transcripts
pub mod Has
pub mod inside

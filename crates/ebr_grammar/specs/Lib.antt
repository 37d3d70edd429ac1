pub mod Kinds
pub mod Forms
pub mod Grammar
pub mod Reading
pub mod Choice
pub mod Outcome
pub mod Words

pub mod Likeness
pub mod Places
pub mod FirstPlace
pub mod Numbers
pub mod Numerals
pub mod Relations
pub mod Search
pub mod Stretches

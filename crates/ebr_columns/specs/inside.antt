pub mod Repetition

pub mod Keys
pub mod Print
pub mod Index
pub mod Judged
pub mod Tables

pub mod Lists
pub mod Line
pub mod Names
pub mod Index
pub mod Entries
pub mod Keys
pub mod Count

pub mod Passed
pub mod Scanning
pub mod Tokens
pub mod Faults
pub mod Blanks
pub mod Statements
pub mod Units
pub mod Words
pub mod Leads
pub mod Fronts
pub mod Agreement
pub mod Places
pub mod Lengths
pub mod Roles
pub mod CutOff
mod Rows

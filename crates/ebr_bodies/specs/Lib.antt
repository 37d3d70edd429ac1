pub mod Ready
pub mod Bodies
pub mod Rows
pub mod Statements
pub mod Agree
pub mod OtherWorlds
pub mod OtherDatabases

pub mod Levels
pub mod Orders
pub mod Settings
pub mod Turns

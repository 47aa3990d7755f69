pub mod Opened
pub mod Turn
pub mod Blank

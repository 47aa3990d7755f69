pub mod Main
pub mod Entries

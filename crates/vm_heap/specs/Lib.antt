pub mod Needs
pub mod Deeds

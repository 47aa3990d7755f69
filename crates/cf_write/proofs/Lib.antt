pub mod Appends
pub mod Bare
mod Dropped
pub mod CodeNames
pub mod Examples
pub mod Offsets
pub mod Spellings

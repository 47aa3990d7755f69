pub mod Found
pub mod Above
pub mod Cycles
pub mod Shaped

pub mod Spreading
pub mod Standing
pub mod Sums

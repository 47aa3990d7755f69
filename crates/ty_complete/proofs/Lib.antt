pub mod Ascii
pub mod Carrying
pub mod Pairs
pub mod Plain
pub mod Finds

pub mod Sequences
pub mod Spelling
pub mod Lines
pub mod Fronts

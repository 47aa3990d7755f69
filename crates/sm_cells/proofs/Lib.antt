mod Slices
mod Editing
mod Performing
mod Moving
pub mod Kept

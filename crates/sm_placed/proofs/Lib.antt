pub mod Fitting
pub mod Carrying
pub mod Reached
pub mod InClasses

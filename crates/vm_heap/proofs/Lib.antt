pub mod Lists
pub mod Resting
pub mod Fresh
pub mod Joins

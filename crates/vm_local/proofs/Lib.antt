pub mod Lists
pub mod Copies
pub mod Staying
pub mod Leaving

pub mod Beginnings
pub mod Branching
pub mod Lasts
pub mod Meets
pub mod Upwards

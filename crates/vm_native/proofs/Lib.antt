pub mod Units
pub mod Characters
pub mod Widths
pub mod Fours
pub mod Fronts
pub mod Plain
pub mod Literals

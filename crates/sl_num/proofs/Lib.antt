pub mod Congruent
pub mod Operators
pub mod Quotient
pub mod Remainder
pub mod Spelled
pub mod Widths
pub mod Written

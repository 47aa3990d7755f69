-- What a reader must believe, in this order: widths, the operators on them, literals and decimal text.
pub mod Width
pub mod Int
pub mod Long
pub mod Division
pub mod Literal
pub mod Spelling

mod Numerals
mod Lines
mod Texts

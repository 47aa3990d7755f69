mod Spelling
mod PreludeNames
mod Ascii
mod Each
mod Filed

pub mod Units
pub mod Pairs
pub mod Texts
pub mod Progress
pub mod Utf8
pub mod FirstCharacters

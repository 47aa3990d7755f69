pub mod OneKind
pub mod Alike
pub mod OneList
pub mod OneSet

-- What a reader must believe, in this order: checking in order, names, and each pass.
pub mod Checked
pub mod Names
pub mod Words
pub mod Naming
pub mod Files
pub mod Parents

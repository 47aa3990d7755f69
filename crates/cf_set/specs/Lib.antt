-- What a reader must believe: the names of classes by their numbers, and which fault of a kind is the first.
pub mod Names
pub mod First
pub mod Indexes

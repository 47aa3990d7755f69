-- What a reader must believe: the one spelling of a class file.
pub mod Spelling
-- For proofs only.
pub mod Writable
pub mod Offsets
pub mod Examples

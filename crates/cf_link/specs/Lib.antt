-- What a reader must believe, in this order: what a linked set is, which one class files make, and which fault they have.
pub mod Descriptors
pub mod Classes
pub mod Selection
pub mod Layout
pub mod Resolution
pub mod Linked
pub mod BuiltIns
pub mod OfFiles
pub mod Faults
pub mod Link
-- For proofs only.
pub mod TableSlots
pub mod Parsing
pub mod Signatures

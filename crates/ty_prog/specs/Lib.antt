pub mod Find
pub mod New
pub mod Node
pub mod Part
pub mod Prelude
pub mod Shape
pub mod Tree
-- For proofs only.
pub mod Rebuilt

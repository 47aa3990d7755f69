-- What a reader must believe: which fault bytes have that are no code, and where the instructions of a code begin.
pub mod Faults
pub mod Offsets
-- For proofs only.
pub mod Reading
pub mod Raws

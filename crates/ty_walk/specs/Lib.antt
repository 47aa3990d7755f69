pub mod Everywhere
pub mod SumOver
-- For proofs only.
pub mod Parts

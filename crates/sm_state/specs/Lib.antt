-- What a reader must believe, in this order.
pub mod Layout
pub mod Entering
pub mod Lends
-- For proofs only.
pub mod TreeCode

-- What a reader must believe, in this order.
pub mod Uses
pub mod SetFirst
-- For proofs only.
pub mod Parts
pub mod Settled

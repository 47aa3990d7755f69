-- What a reader must believe, in this order.
pub mod Words
pub mod Complete
-- For proofs only.
pub mod Finding
pub mod Merged

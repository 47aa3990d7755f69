-- What a reader must believe, in this order.
pub mod Linear
pub mod Fault
-- For proofs only.
pub mod Gather
pub mod Order

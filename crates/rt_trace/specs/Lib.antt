-- What a reader must believe, in this order.
pub mod Traces
pub mod Turns
pub mod Fault
-- For proofs only.
pub mod Reading

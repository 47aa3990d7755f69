-- What a reader must believe, in this order.
pub mod Counts
pub mod Files
pub mod Gains
pub mod Fetch
pub mod Put
pub mod SinkFault
pub mod FaultPlan
pub mod Gathered
pub mod Held
-- For proofs only.
pub mod Reading

-- What a reader must believe, in this order.
pub mod Room
pub mod Numbers
pub mod Ahead
pub mod Sizing
pub mod Forms
pub mod Source
pub mod NoMore
pub mod Replaced
pub mod Members
pub mod Limits
pub mod AtLimits
pub mod Kept
-- For proofs only.
pub mod Capped

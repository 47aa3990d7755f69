-- What a reader must believe, in this order.
pub mod Stands
pub mod Members
pub mod Types
pub mod NodeTyped
pub mod Bodies
pub mod Kinds
-- For proofs only.
pub mod Looked
pub mod Parts
pub mod Scopes

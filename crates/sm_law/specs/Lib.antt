-- What a reader must believe, in this order.
pub mod Twins
pub mod Passes
pub mod Copies

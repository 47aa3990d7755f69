-- What a reader must believe, in this order.
pub mod Protocol
pub mod Steps
pub mod Once
pub mod Causes
pub mod Promises
pub mod Kept

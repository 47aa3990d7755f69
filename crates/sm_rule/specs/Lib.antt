-- What a reader must believe, in this order.
pub mod Values
pub mod Moves
pub mod Edits
pub mod Perform
pub mod Step
pub mod Machine

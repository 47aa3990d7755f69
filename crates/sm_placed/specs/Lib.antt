-- What a reader must believe, in this order.
pub mod Placed
pub mod Nodes

-- What a reader must believe, in this order.
pub mod Conforms
pub mod Kinds
pub mod Join
pub mod Found
pub mod Carried

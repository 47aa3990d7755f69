-- What a reader must believe, in this order.
pub mod Each
pub mod Numbers
pub mod Forms
pub mod Names
pub mod Traits
pub mod Modules
pub mod LazyGets
pub mod TraitFields
pub mod Accessors
pub mod LazyMembers
pub mod Selection
pub mod Good

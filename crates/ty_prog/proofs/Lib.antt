pub mod Fitting
pub mod Members
pub mod Places
pub mod Plain
pub mod Remaking
pub mod Stacks

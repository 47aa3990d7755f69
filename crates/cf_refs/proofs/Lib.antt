pub mod Once
pub mod Resolving
pub mod MainMethod

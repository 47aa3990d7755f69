pub mod Contexts
pub mod Escaping
pub mod Machine

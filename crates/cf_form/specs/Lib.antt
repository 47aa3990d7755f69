-- What a reader must believe, in this order.
pub mod Opcodes
pub mod Instructions
pub mod Pool
pub mod Outline
pub mod ClassFiles

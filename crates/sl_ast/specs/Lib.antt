-- What a reader must believe: which kind of token a token is, as its shape.
pub mod Shape

-- What a reader must believe, in this order: characters, what a piece of a text is, and the tokens of a whole text (SLS 1).
pub mod Characters
pub mod Class
pub mod Comment
pub mod TextLiteral
pub mod Piece
pub mod Lex
-- The form of each kind of token.
pub mod Forms
-- For proofs only.
pub mod Reading

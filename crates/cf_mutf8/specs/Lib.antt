-- What a reader must believe: modified UTF-8, and the text that bytes spell.
pub mod ModifiedUtf8
pub mod Decoded
-- For proofs only.
pub mod Reading
pub mod Appended
pub mod Share

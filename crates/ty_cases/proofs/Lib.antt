-- Lemmas.
pub mod Tells

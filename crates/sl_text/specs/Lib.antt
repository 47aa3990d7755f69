-- What a reader must believe, in this order: UTF-8, then lines and columns.
pub mod Utf8
pub mod Spot

-- What a reader must believe: line ends between tokens.
pub mod Gaps
-- Regions, and the newlines that stand in them.
pub mod Regions

-- What a reader must believe: the way through a file and its codes, and which fault is the first.
pub mod Reading
pub mod Codes
pub mod FileFaults
-- For proofs only.
pub mod Giving
pub mod Views
pub mod Looking
pub mod Seen

pub mod Request
pub mod Listing
pub mod Value
pub mod Trace
pub mod Refusals
pub mod Outside
pub mod Outcome
pub mod Fetched
pub mod Printing
pub mod Usage
pub mod Check
pub mod Run
pub mod Commands
-- For proofs only.
pub mod Reading
pub mod Code
pub mod Machine

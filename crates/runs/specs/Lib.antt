-- Systems, runs, waits, and what it means that one system refines another.
pub mod System
pub mod Waiting
pub mod Refines
-- What shows it.
pub mod Simulates
pub mod Matches
pub mod SharedHeap
pub mod Quiet
-- Plans, and how runs end.
pub mod Planned
pub mod Ends
pub mod WaitTable
-- What machines and their moves are to be.
pub mod Trying
pub mod Made
-- For proofs only.
pub mod Course
pub mod Walks

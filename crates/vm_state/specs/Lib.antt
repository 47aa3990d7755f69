-- What a reader must believe, in this order: values, what instructions do to frames and threads, the heap and what threads
-- share, built-in methods, and the machine as a system of threads.
pub mod Values
pub mod Held
pub mod Lends
pub mod Actions
pub mod Instructions
pub mod Methods
pub mod Local
pub mod Heaps
pub mod Shared
pub mod Needing
pub mod Natives
pub mod HeapStep
pub mod Machine

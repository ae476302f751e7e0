-- What only the functions inside the crate speak of, and proofs that the kit wants in specs. No public clause does.
pub mod Reading
pub mod State
pub mod Stops
pub mod Input
pub mod Index
pub mod Heads
pub mod Scan

-- What only the functions inside the crate speak of, and proofs that the kit wants in specs. No public clause does.
pub mod Moves
pub mod Tree
pub mod Stays

-- What only the functions inside the crate speak of. No public clause does.
pub mod Numbers
pub mod Jumps
pub mod Ranks
pub mod Ways

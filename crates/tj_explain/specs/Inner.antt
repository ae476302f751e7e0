-- What only the functions inside the crate speak of. No public clause does.
pub mod Readings

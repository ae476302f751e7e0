-- What only the functions inside the crate speak of. No public clause does.
pub mod Spots
pub mod Rooms
pub mod Shorts

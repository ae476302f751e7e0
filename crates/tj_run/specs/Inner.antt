-- What only the functions inside the crate speak of. No public clause does.
pub mod Pieces
pub mod Carried
pub mod Going
pub mod Posts
pub mod Children
pub mod Answers
pub mod Waits
pub mod Turns

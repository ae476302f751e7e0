-- What only the functions inside the crate speak of. No public clause does.
pub mod Learners
pub mod Marks
pub mod Steps
pub mod Monitors

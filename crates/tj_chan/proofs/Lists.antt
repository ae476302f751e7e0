-- Channels as lists: the histories of tasks over what the lists tell.
pub mod Runs
pub mod Histories
pub mod Grows
pub mod Kept
pub mod Apart

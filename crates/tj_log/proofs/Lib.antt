pub mod Entries
pub mod Keeps
pub mod Unmoved
pub mod PutSlots
pub mod OwnSteps

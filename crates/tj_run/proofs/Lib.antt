pub mod Asks
pub mod Cells
pub mod Children
pub mod Waiting
pub mod Seats
pub mod Runs
pub mod Prelude

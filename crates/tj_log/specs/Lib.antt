pub mod Shown
pub mod Logs
pub mod Runs
pub mod Asks
pub mod Laws

pub mod Calls
pub mod Faults
pub mod Memory
pub mod Putting
pub mod Reading
pub mod Standard

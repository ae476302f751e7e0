pub mod Few
pub mod Tested

pub mod Inner
pub mod Journals
pub mod Checker

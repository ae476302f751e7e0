pub mod Workers
pub mod Leaving
pub mod Runs
pub mod Inner

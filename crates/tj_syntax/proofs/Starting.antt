-- What is read off the tokens is where the parts of a script begin.
pub mod Quiet
pub mod Statements
pub mod Tasks
pub mod Read
pub mod Parts

-- The generated text is a script.
pub mod Notes
pub mod Script
pub mod Short
pub mod Tasks
pub mod Text

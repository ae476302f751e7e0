pub mod Columns
pub mod Journals

-- Journals, what is read of them, and what judging says.
pub mod Lines
pub mod Judging
pub mod Laws

-- A table is opened with one seat; seats are split and merged.
pub mod FirstWords
pub mod Opening
pub mod Appending
pub mod Splitting
pub mod Merging

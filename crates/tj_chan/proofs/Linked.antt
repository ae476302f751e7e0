-- Bodies over promises beside chatters over lists.
pub mod Begins
pub mod Entries
pub mod Families
pub mod Items
pub mod Histories
pub mod Links
pub mod Meaning
pub mod Rows
pub mod Steps
pub mod Theorem
pub mod RowsWith

-- The command line, as its parser takes it.
pub mod CommandLines
pub mod Faults
pub mod Finds
pub mod Items
pub mod Once
pub mod Parses
pub mod Reads
pub mod Walks

-- The core state that lists show.
pub mod Additions
pub mod ColumnLists
pub mod BirthNames
pub mod OwnedCounts
pub mod Slots
pub mod Starts
pub mod StepEvents

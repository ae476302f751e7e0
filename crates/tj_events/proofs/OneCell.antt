-- A change of one cell, and what it keeps of the facts.
pub mod CellChanges
pub mod Frames
pub mod Makers
pub mod NewCells
pub mod RunChanges
pub mod SoundTasks
pub mod WaitChanges

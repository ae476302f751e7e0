-- Cells by number in the record, and by name in the point.
pub mod KnownCells
pub mod NamedLists
pub mod OwnedCells
pub mod PieceLists
pub mod ToldCells

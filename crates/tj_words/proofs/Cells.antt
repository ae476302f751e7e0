-- A cell is drawn, in hand, given to its first owner, handed on and closed.
pub mod SeatHands
pub mod CellFacts
pub mod CellNames
pub mod MadeThings
pub mod MoreDues
pub mod DrawnTasks
pub mod TreeDraws
pub mod DrawnCells
pub mod DrawSteps
pub mod HandChanges
pub mod GivenOwners
pub mod GivenCells
pub mod OwnedChanges
pub mod ClosedCells
pub mod HandedPromises
pub mod OwnerStores

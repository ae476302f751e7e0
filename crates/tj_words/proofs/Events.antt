-- Each kind of step is one event of the core, or shows nothing.
pub mod ShownCells
pub mod ShownOwners
pub mod ShownDraws
pub mod WalkersShown
pub mod TurnedTasks
pub mod WalkEvents
pub mod WaitClears
pub mod OwnerEvents
pub mod DrawEvents
pub mod QuietMoves
pub mod StepFacts
pub mod QuietCells
pub mod ShownParts
pub mod WalkSteps
pub mod OwnerSteps
pub mod StepEvents

-- Tasks at work, up to the settled round.
pub mod CellCounts
pub mod EnteredCells
pub mod Fronts
pub mod KeptPoints
pub mod PointSteps
pub mod RoundSteps
pub mod TakenUp
pub mod TasksAtWork
pub mod UnansweredTasks

pub mod TakenTasks
pub mod LeftTasks
mod Joining
mod ParkedViews
mod Returns
pub mod WakeSteps
pub mod WakeLoops
pub mod BreakSteps
pub mod EndPoints
pub mod EndSteps
pub mod ResultCloses
pub mod TestRoots
pub mod NothingToCome
pub mod Prelude
pub mod EndRuns
mod OwnedCells
pub mod ParkLogs
pub mod WakeLogs
pub mod EndLogs
mod ReturnedRecords

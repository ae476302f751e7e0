-- A wait: its tests, its calls, and how the task looks again.
pub mod JoinTests
pub mod LookedCells
pub mod ResumedTasks
pub mod WaitConditions
pub mod BlockedTasks

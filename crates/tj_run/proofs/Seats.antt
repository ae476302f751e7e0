-- What a seat has: one task or none, its lots, and that it may go to another thread.
pub mod FreeSeats
pub mod OneTask
pub mod RunningTasks
pub mod SplitLots
pub mod ThreadSends
pub mod WorkersSteps
pub mod QuietTasks
pub mod LogGrowth

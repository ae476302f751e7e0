pub mod Looks
pub mod Polls
pub mod RootWatches
pub mod WatchedRuns
pub mod LooksStand
pub mod LookLogs
pub mod CellWatches

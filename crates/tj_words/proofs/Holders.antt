-- Each task is held by one seat, or its record lies at home.
pub mod SeatTasks
pub mod HeldTasks
pub mod HeldChanges
pub mod NotedPairs
pub mod NotedTasks
pub mod NotedEntries
pub mod TaskPlaces
pub mod TaskMoves
pub mod LaidRecords
pub mod HomeSlots
pub mod TakingRecords
pub mod ClaimedRecords
pub mod RecordSteps

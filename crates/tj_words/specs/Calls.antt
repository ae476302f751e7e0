-- What each step call asks of the view of its seat, and what it makes of it.
pub mod WalkViews
pub mod ParkSteps
pub mod DrawViews
pub mod OwnerViews
pub mod EntryViews
pub mod ChainSteps
pub mod PutRecords
pub mod TakenRecords
pub mod LiveViews
pub mod WaitViews
pub mod PhaseViews
pub mod ExchangeViews
pub mod PushSteps
pub mod MetCells

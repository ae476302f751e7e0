-- A load keeps the law, and its seat learns.
pub mod LoggedSteps
pub mod Learning
pub mod LoadSteps
pub mod KnowLoads
pub mod MetCells
pub mod HeadLoads
pub mod PhaseLoads
pub mod WalkReads
pub mod WalkLoads
pub mod KnowsMoreOn
pub mod LaterSeats
pub mod NodeLooks

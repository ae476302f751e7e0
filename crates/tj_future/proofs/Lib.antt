pub mod Looking
pub mod Polling
pub mod RootRecords
pub mod ThreadSends
mod TakenSeats
mod LookAnswers
mod LookSteps
mod EndedLoads
mod EndedCells
mod ClosedAnswers
mod EndedWatches

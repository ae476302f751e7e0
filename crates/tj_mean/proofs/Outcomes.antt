-- The outcome of histories that have stopped.
pub mod Indexes
pub mod LeastCycles
pub mod NoWaits
pub mod OneOutcome
pub mod StandingCycles
pub mod ToldOutcomes
pub mod LeastIndexes
pub mod OwnerMaps
pub mod ToldBodies
pub mod IndexCycles

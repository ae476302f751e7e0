-- Loops of asks and of turns, how a task leaves, and how a run ends.
pub mod EndConditions
pub mod RunLoops
pub mod RunsAtRest
pub mod TaskReturns
pub mod TurnSteps

-- Each call is such a step, and calls one after the other are a run of the core.
pub mod KeptCells
pub mod StepActs
pub mod ToldSteps
pub mod LoggedRuns
pub mod FoundHeads

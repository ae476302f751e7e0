-- What is shown at a moment, and what calls make of tasks and cells in the terms of the core.
pub mod StepEvents
pub mod WalkSteps
pub mod OwnerSteps
pub mod QuietSteps
pub mod TableRuns

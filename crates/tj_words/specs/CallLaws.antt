-- What each step call is, and what is so of runs of them.
pub mod CallSteps
pub mod StepCalls
pub mod StepLogs
pub mod CallRuns
pub mod RestedRuns
pub mod LoggedRuns

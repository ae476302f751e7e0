pub mod ClosedRuns
pub mod RelayRuns
pub mod RootLines
mod TopAnswers
pub mod Prelude

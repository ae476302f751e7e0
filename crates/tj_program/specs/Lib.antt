pub mod Inner
pub mod ClosedRuns
pub mod TestBodies
pub mod TopAnswers

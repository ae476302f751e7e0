pub mod Limits
pub mod ScriptRuns
pub mod Reports

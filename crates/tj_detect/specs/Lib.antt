pub mod TreeReads
pub mod Blocks
pub mod Inner
pub mod VerdictRuns
pub mod BlockLogs
pub mod ClimbLogs

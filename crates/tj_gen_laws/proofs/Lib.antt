pub mod MainPoints
pub mod MainSteps
pub mod NodeSteps
pub mod Rested
pub mod Meant
pub mod Totals
pub mod TextRuns
mod ShortRun

-- Journals and their judging.
pub mod AlarmLines
pub mod Lines
pub mod Reads
pub mod Words
pub mod JudgedRuns
pub mod OneJudging
pub mod OneReading

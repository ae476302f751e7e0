mod Example
pub mod Rows
pub mod Lists
pub mod Counts
pub mod Proper
pub mod NameLaws
pub mod References
pub mod RoundPoints
pub mod WaitGraph
pub mod Rounds
pub mod SeenAs
pub mod KeptFacts
pub mod Histories

-- What only the functions inside the crate speak of. No public clause does.
pub mod CellNames
pub mod ToldRecords
pub mod CellNamesBy
pub mod WalkedReports
pub mod AwaitedCells
pub mod RestAlarms
pub mod NamedCells

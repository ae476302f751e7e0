pub mod ChatRows
pub mod RowLoops
pub mod Turns
pub mod RelayRuns
pub mod Lists
pub mod Linked
pub mod Asks

-- Steps and cycles of the wait graph.
pub mod Chains
pub mod CycleLists
pub mod WaitSteps
pub mod ForkOrders
pub mod Watches
pub mod WatchedCycles

-- No lost wake: chains of waiters, LIVE, STOP and OTHERS.
pub mod ChainLists
pub mod ChainSeats
pub mod ChainFacts
pub mod ChainHeads
pub mod ChainPhases
pub mod ChainsSaid
pub mod HeadSteps
pub mod Backings
pub mod LiveSteps
pub mod LiveStores
pub mod LiveCalls
pub mod StopSteps
pub mod OthersSteps
pub mod PushedRecords

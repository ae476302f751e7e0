pub mod CycleImages
pub mod CycleLists
pub mod CycleWays
pub mod CyclesOn
mod Differences
mod LeapsAndSteps
pub mod MapOrders
pub mod Orders
pub mod PartTexts
pub mod Puts
pub mod Ways
pub mod ChildNames

-- The parts of the law.
pub mod Lots
pub mod Telling
pub mod TreeWords
pub mod ShownState
pub mod Holding
pub mod Hands
pub mod NamedCells
pub mod Custodies
pub mod OnceWords
pub mod Chains
pub mod LiveCount
pub mod Stops
pub mod Meaning
pub mod RecordPhases
pub mod Contents
pub mod FirstState
pub mod PushedRecords

-- What only the functions inside the crate speak of, and proofs that the kit wants in specs. No public clause does.
pub mod Assignments
pub mod KeptRounds
pub mod Indexes
pub mod Reached
pub mod ToldOrder
pub mod NotedActs
pub mod Owners
pub mod MetIndexes
pub mod NameMaps
pub mod KeptPoints
pub mod Waves
pub mod Agendas

-- What only the functions inside the crate speak of, and proofs that the kit wants in specs. No public clause does.
pub mod Columns
pub mod Machine
pub mod Owners
pub mod Slots
pub mod SlotStages
pub mod WalkSteps
pub mod Births

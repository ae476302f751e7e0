-- What only the functions inside the crate speak of, and proofs that the kit wants in specs. No public clause does.
pub mod Laws
pub mod StandLaws
pub mod Codes
pub mod Effects
pub mod View
pub mod Standing

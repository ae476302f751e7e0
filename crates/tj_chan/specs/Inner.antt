-- What only the functions inside the crate speak of, and proofs that the kit wants in specs. No public clause does.
pub mod ChatTableLaws
pub mod RelayLaws
pub mod RowLaws
pub mod ChanBodyLaws
pub mod Replies

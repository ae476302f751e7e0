-- Proofs that the kit wants in specs, and what a function inside the crate speaks of. No public clause speaks of them.
pub mod LogLaws
pub mod LineParts
pub mod RoundMakers
pub mod TaskDepths
pub mod StatementCounts
pub mod Quiet

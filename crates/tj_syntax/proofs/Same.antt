-- Tokens that begin alike are read alike, so there is one first fault.
pub mod Alike
pub mod AlikeExpr
pub mod AlikeAsk
pub mod AlikeSteps
pub mod AlikeStmt
pub mod AlikeTask
pub mod Fault
pub mod Heads
pub mod Notes
pub mod Stop
pub mod Token
pub mod Retasked

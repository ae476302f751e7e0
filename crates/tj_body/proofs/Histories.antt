-- What histories have, point by point.
pub mod Accounts
pub mod AskSteps
pub mod EndedPoints
pub mod Good
pub mod Grows
pub mod Points
pub mod Prefixes

-- What only the functions inside the crate speak of. No public clause does.
pub mod JoinViews
pub mod Breaks
pub mod Closings
pub mod FirstWaiters

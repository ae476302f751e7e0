pub mod EachAnswer
pub mod Handovers
pub mod Sums

pub mod Cycles
pub mod Differences
pub mod ForkOrder
pub mod Leaps
pub mod MapOrder
pub mod MapOrderTies
pub mod Puts
pub mod Texts

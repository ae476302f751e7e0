pub mod Ends
pub mod Meetings
pub mod Queues
pub mod Rules
pub mod Stealing
pub mod Seats
pub mod Inner
pub mod Orders

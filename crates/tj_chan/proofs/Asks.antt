-- Each ask keeps body and chatter linked.
pub mod Faults
pub mod Opens
pub mod Receives
pub mod Sends
pub mod Spawns
pub mod SpawnHands
pub mod SpawnRows

pub mod Forks
pub mod Laws
pub mod Nodes
pub mod Walk
pub mod Inner

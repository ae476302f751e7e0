-- A fork: what is handed, the child, and the calls that make it.
pub mod ForkCalls
pub mod ForkedChildren
pub mod GivenPromises
pub mod HandedPlaces
pub mod BareForks

-- What the checker shows of its core.
pub mod Core
pub mod Loads
pub mod StagesShown

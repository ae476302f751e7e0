pub mod Asked
pub mod TaskBodies
pub mod TaskAsks
pub mod Seens
pub mod Replays
pub mod Words
pub mod Inner

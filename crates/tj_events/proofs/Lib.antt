pub mod WalkLaws
pub mod Examples
pub mod Graph
pub mod Events
pub mod OneCell
pub mod Puts

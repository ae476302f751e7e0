-- What rounds have.
pub mod Families
pub mod Keeps
pub mod Rests
pub mod Rises
pub mod Settles
pub mod Sizes
pub mod InOrder
pub mod WithoutGets

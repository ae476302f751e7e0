pub mod Expressions
pub mod Statements
pub mod Bodies
pub mod Stands
pub mod Gets
pub mod Inner
pub mod AskedAt
pub mod Sizes

pub mod Bytes
pub mod Positions
pub mod Pieces
pub mod Spelling
pub mod Inner
pub mod Tokens
pub mod Shorts

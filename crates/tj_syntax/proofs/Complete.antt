-- What is in the grammar is read.
pub mod Block
pub mod Expr
pub mod Forks
pub mod Ask
pub mod Script
pub mod Steps
pub mod Stmt
pub mod Task

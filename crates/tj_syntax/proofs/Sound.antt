-- What is read is the grammar.
pub mod Block
pub mod AskParts
pub mod Expr
pub mod Ask
pub mod Script
pub mod Steps
pub mod Stmt
pub mod Task

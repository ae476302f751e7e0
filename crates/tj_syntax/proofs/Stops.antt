-- Where a reading stops, what it read begins a part.
pub mod Ask
pub mod Expr
pub mod Steps
pub mod Stmt
pub mod Task
pub mod FirstFault

-- A listing is its script again.
pub mod Again
pub mod Apart
pub mod Asks
pub mod Back
pub mod Clear
pub mod Expr
pub mod Fits
pub mod Names
pub mod Script
pub mod StatementTexts
pub mod Stmt
pub mod Texts
pub mod Views

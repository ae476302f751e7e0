mod ReasonsAgree
pub mod ReasonsBegun
pub mod FailuresTold
pub mod ForksDeclared
pub mod FaultsFirst
pub mod StatementsFirst

pub mod Reasons
pub mod ReasonLaws
pub mod FailureLaws
pub mod FirstFaults

pub mod SummaryTexts
pub mod ClosedOutcomes
pub mod Inner
pub mod RestReports
pub mod NamedValues

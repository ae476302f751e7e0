-- What a seat has and knows, and how it learns.
pub mod Views
pub mod TaskLists
pub mod SeatSteps
pub mod SeenWords
pub mod KnownEntries
pub mod KnowsMore
pub mod TreeReads
pub mod FullMeaning

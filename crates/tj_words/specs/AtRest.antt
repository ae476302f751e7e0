-- What a closed table is seen as, and that it is the meaning.
pub mod ClosedCells
pub mod ShownCells
pub mod RestMeaning
pub mod RestShown
pub mod RestingSeats
pub mod EndedRuns
pub mod RestValues

pub mod Greetings
pub mod MeetingAsks
pub mod ByHand
pub mod Beside
pub mod EndsAlone

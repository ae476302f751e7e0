-- What stands is within the meaning, and at rest it is the meaning.
pub mod MeaningGrows
pub mod MeaningSteps
pub mod LawMeant
pub mod Resting
pub mod RestingStates
pub mod ClosedWords
pub mod RestingCells
pub mod RestingMeaning
pub mod MeantCycles
pub mod ClosedValues
pub mod Rested
pub mod EndedRuns

pub mod Readings
pub mod CommandLimits
pub mod OneOutput
pub mod ToldInputs
pub mod Owns
pub mod SameWords
pub mod FoundCommands
pub mod ToldFindings
pub mod InOrder
mod ToldOutcomes
mod Counts
pub mod FullPlaces
mod PlacesThere
mod GroupsTold
mod FullStands
mod NamesPlain
mod SceneLines
mod GroupTrees

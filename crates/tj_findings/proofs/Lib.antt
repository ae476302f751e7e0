pub mod Steps
pub mod PutBelow
mod TableRows
mod ChildNames
pub mod PlainTexts
pub mod PlainParts
pub mod PartsInOrder

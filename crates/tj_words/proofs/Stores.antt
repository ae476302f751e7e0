-- A store keeps the law; words that are written once.
pub mod SeatLists
pub mod SeatContents
pub mod LawChanges
pub mod TableWords
pub mod StoredWords
pub mod OneActs
pub mod StoreSteps
pub mod StepContents
pub mod Columns
pub mod SlotStores
pub mod WrittenOnce
pub mod OnceStores
pub mod WordStores
pub mod EntryStores
pub mod CellSteps

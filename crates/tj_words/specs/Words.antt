-- Which word is which, and what stands in it.
pub mod Offsets
pub mod Owners
pub mod Phases
pub mod Heads
pub mod Values
pub mod StopWords
pub mod Codes
pub mod Lists

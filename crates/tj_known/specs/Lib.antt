pub mod Knowledge
pub mod KnownLines
pub mod KnownTexts
pub mod Inner
pub mod KnownLaws

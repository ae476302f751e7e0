pub mod JsonTexts
pub mod LineLaws

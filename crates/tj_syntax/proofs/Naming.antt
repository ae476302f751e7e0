-- Names that are declared, and where they are found.
pub mod Fresh
pub mod HeadNames
pub mod HeadSteps
pub mod Indexes
pub mod TaskNames

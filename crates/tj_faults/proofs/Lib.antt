pub mod LinesMore
pub mod JoinedTexts
pub mod SourceLines
mod TokenLines

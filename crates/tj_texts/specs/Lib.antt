pub mod WhyTexts
pub mod Inner
pub mod WentTexts
pub mod LineLaws
pub mod GroupLaws
pub mod AgreedParts
pub mod AgreedLines

pub mod Inputs
pub mod Puts
pub mod Scripts
pub mod ShortNumerals
pub mod MainDeclaration

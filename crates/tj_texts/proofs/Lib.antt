pub mod Refs
mod SeveralTold
mod PutGrouped
pub mod GroupKeys
mod PlainTexts
mod TextsOfLines
mod GroupsTold
mod GroupsSame
mod NamesTold
mod PartsAgreed
mod LinesAgreed

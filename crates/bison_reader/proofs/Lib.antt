pub mod ItemWords
pub mod KeepsItems
pub mod Rests
pub mod Whole
pub mod WordNames

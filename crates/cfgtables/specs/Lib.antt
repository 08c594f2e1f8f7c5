pub mod NumberedSymbols
pub mod Openings

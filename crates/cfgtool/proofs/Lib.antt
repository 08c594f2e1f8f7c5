pub mod Handled
pub mod OfText
pub mod SentenceTexts
pub mod Reported
pub mod WarningPositions
pub mod Written

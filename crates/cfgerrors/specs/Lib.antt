pub mod Errors
pub mod HeaderErrors
pub mod HeaderTexts
pub mod Refusal
pub mod ErrorTexts
pub mod Warnings
pub mod WarningTexts

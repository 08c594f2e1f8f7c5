pub mod ErrorLemmas
pub mod HeaderErrorLemmas
pub mod Lines
pub mod WarningLemmas

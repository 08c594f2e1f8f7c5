-- Users of this crate's calls have to read these files.
pub mod ErrorSpans
pub mod ErrorTexts
pub mod ErrorWords
pub mod Errors
pub mod Reading

-- Users of this crate's calls have to read these files; those in Inner define what private clauses use.
pub mod Actions
pub mod Blank
pub mod Bytes
pub mod ColonText
pub mod Inner
pub mod Passed
pub mod TextSpans
pub mod SectionWords
pub mod Strings
pub mod Text
pub mod FileWords

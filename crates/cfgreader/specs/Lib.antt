-- Users of this crate's calls have to read these files; those in Inner define what private clauses use.
pub mod Declarations
pub mod FileGrammar
pub mod ReadFile
pub mod Here
pub mod Inner
pub mod Keywords
pub mod FileWordKinds
pub mod Rules

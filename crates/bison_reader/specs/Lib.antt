-- Users of this crate's calls have to read these files; those in Inner define what private clauses use.
pub mod Declarations
pub mod FileGrammar
pub mod Groups
pub mod Here
pub mod Inner
pub mod ItemWords
pub mod Items
pub mod Rules
pub mod Sorts
pub mod WordNames

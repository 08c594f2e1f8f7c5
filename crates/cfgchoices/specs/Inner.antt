-- Definitions for the contracts of the crate's private functions and loops. No public contract depends on them.
pub mod SequenceKinds
pub mod Lists
pub mod Candidates

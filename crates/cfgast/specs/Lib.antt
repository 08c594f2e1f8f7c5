-- Users of this crate's calls have to read these files; those in Inner define what private clauses use.
pub mod Check
pub mod Duplicates
pub mod Sound
pub mod TreeView
pub mod WellFormed
pub mod Unused
pub mod Writing
pub mod Inner

-- Users of this crate's calls have to read these files; those in Inner define what private clauses use.
pub mod Faults
pub mod Inner
pub mod SelfNamed
pub mod Parsed
pub mod Reads
pub mod ErrorSpans
pub mod Starts

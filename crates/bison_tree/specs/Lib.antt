-- Users of this crate's calls have to read these files; those in Inner define what private clauses use.
pub mod Inner
pub mod Names
pub mod Productions
pub mod Tokens
pub mod Tree

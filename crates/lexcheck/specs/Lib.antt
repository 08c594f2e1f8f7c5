-- Users of this crate's calls have to read this file; those in Inner define what private clauses use.
pub mod LexerNames
pub mod Inner

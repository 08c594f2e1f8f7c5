-- Users of this crate's calls rely on these definitions; those in Inner are only for private clauses.
pub mod Sentences
pub mod DerivedBy
pub mod Inner

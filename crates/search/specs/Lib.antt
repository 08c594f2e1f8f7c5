-- Users of this crate's calls have to read these files; those in Inner define what private clauses use.
pub mod Components
pub mod Nodes
pub mod Reachable
pub mod Inner

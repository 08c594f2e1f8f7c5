-- Definitions for the crate's private clauses, of its loops and helpers. No public call depends on them.
pub mod Steps

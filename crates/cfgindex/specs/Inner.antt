-- Definitions for the crate's private clauses. No public call depends on them.
pub mod SetBits

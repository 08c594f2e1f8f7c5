-- Definitions for clauses inside the crate, of its loops and helpers. No public contract depends on them.
pub mod Targets
pub mod Minimal
pub mod Walk

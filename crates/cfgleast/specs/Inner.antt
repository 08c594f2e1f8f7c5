-- Definitions for clauses inside the crate, of its loops and helpers. No public contract depends on them.
pub mod Queue
pub mod Open

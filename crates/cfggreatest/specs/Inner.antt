-- Definitions for clauses inside the crate, of its loops and helpers. No public contract depends on them.
pub mod AtLeast
pub mod Edges
pub mod Known
pub mod Sums

-- Definitions for clauses inside the crate, of its loops and helpers. No public contract depends on them.
pub mod Components
pub mod Layers
pub mod Members
pub mod Putting

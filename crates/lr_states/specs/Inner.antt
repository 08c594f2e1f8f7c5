-- Definitions for the crate's private clauses. No public call depends on them.
pub mod Closure
pub mod Steps
pub mod Kernels
pub mod Graph
pub mod Reached
pub mod Numbers
pub mod Edges

-- Users of this crate's calls rely on these definitions; those in Inner are only for private clauses.
pub mod Certificate
pub mod CutSums
pub mod Settled
pub mod Generator
pub mod Inner

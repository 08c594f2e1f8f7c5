-- Definitions for the contracts of the crate's private functions and loops. No public contract depends on them.
pub mod Joined
pub mod Links
pub mod Flat
pub mod Lookaheads

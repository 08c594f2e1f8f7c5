-- Definitions for clauses inside the crate. No public contract depends on them.
pub mod Marks
pub mod Shadowing
pub mod FirstProductions
pub mod Unproductive
pub mod Reached
pub mod CyclicRules
pub mod SinkGroups

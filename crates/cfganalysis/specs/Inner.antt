-- Definitions for the contracts of the crate's private functions and loops. No public contract depends on them.
pub mod Visits
pub mod GrowingFirsts
pub mod FollowsSoFar
pub mod GrowingProductive

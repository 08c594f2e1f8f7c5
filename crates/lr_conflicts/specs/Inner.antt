-- Definitions for the crate's private clauses. No public call depends on them.
pub mod Choices
pub mod Listed
pub mod Pushed
pub mod Ways
pub mod Tables
pub mod Searches
pub mod Clashing
pub mod Finders

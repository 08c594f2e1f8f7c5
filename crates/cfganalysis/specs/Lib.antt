-- Contracts of public calls use these definitions; only private contracts use those in Inner.
pub mod Firsts
pub mod Follows
pub mod Paths
pub mod ProductiveRules
pub mod Inner

-- Contracts of public calls use these definitions; only private contracts use those in Inner.
pub mod Table
pub mod FirstSets
pub mod Waiting
pub mod Work
pub mod Growth
pub mod GrowingFollows
pub mod Bounds
pub mod Inner

-- Contracts of public calls use these definitions; only private contracts use those in Inner.
pub mod Splits
pub mod Chains
pub mod FirstSentence
pub mod Kinds
pub mod Choices
pub mod FirstChoices
pub mod Inner

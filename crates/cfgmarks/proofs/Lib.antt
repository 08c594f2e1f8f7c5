pub mod MarkEntries
pub mod MarkIdentity
pub mod MarkLists
pub mod MergeSteps
pub mod StoredKeys

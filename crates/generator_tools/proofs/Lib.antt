pub mod Used
pub mod UsedAt
pub mod Entries
pub mod Listed
pub mod Conditions

pub mod Marked
pub mod Reports

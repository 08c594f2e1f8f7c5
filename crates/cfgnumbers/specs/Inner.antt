-- Definitions for clauses inside the crates: of loops, helpers, and what makes the tables. No public contract depends on them.
pub mod Lists

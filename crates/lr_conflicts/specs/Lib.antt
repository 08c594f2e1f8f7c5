pub mod Precedences
pub mod Conflicts
pub mod Tables
pub mod Clashes
pub mod Examples
pub mod Inner

-- Users of grammars in numbers rely on these definitions; those in Inner are only used between the crates.
pub mod Fits
pub mod Numbered
pub mod Accessors
pub mod TablesView
pub mod WellNumbered
pub mod Resolved
pub mod Numberable
pub mod Inner

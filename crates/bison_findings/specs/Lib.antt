pub mod Found
pub mod Defines
pub mod Aliases
pub mod Commas
pub mod Shown
pub mod Conflicts
pub mod States
pub mod Inner

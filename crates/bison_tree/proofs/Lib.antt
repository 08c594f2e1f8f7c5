pub mod Adds
pub mod NameStarts
pub mod Once
pub mod RuleNames
pub mod Steps
pub mod Taken
pub mod Whole

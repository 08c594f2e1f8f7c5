pub mod OneOf
pub mod Outcomes
pub mod Reporting
pub mod ColoredLines

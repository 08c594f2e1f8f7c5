pub mod Shown
pub mod Useless
pub mod Needless
pub mod SinkGroups
pub mod Findings
pub mod Inner

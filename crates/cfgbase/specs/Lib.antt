pub mod Locations
pub mod Spans

pub mod HeaderResults
pub mod SectionHeader

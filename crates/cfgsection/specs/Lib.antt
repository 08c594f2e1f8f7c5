-- Users of this crate's calls have to read these files; those in Inner define what private clauses use.
pub mod Inner
pub mod SectionWordKinds
pub mod Named
pub mod SectionRefusal
pub mod SectionErrors
pub mod SectionGrammar
pub mod SectionOffsets
pub mod SectionReads
pub mod SectionTexts

pub mod Answer
pub mod Counting
pub mod GrammarOf
pub mod TokenNames
pub mod GrammarSpans

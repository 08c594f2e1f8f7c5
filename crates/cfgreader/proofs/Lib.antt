pub mod Blanks
pub mod Built
pub mod Declared
pub mod Kept
pub mod KeptDeclarations
pub mod KeptRules
mod Parts
pub mod SyntaxOffsets

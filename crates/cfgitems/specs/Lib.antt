-- Users of this crate's calls have to read these files.
pub mod Items
pub mod Occurrences
pub mod Syntax
pub mod Building
pub mod SyntaxView

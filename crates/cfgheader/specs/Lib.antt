-- Users of this crate's calls have to read this file.
pub mod Headers

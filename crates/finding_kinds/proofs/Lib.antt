pub mod Words
pub mod ByKind

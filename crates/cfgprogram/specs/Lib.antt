pub mod Kinds
pub mod ReadText
-- The kinds, for crates that don't list cfgrammar.
pub use Rattle.cfgrammar.specs.YaccKind
pub use Rattle.cfgrammar.specs.YaccOriginalActionKind

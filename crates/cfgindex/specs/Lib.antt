pub mod SymbolCopies
pub mod BitWords
pub mod Inner

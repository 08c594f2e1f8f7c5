pub mod Ll1
pub mod Inner

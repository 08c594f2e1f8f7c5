pub mod Objects
pub mod Annotations
pub mod Sarif
pub mod Inner

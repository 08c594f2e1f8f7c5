pub mod Located
pub mod Slices

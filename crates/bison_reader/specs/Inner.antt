pub mod Builds
pub mod Parts

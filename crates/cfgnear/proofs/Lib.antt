pub mod FirstNearest
pub mod Lengths

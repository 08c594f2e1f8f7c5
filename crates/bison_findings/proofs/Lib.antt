pub mod Within
pub mod Sides
pub mod Ranges
pub mod Endings

pub mod Render
pub mod Visible

pub mod Hints

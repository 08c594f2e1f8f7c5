pub mod ByNaming

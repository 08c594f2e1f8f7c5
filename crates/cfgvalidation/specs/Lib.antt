pub mod EveryError
pub mod ValidationError

pub mod FirstOfEvery

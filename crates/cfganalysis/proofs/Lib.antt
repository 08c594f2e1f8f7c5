pub mod Visiting
pub mod FirstVisits
pub mod FollowsFound
pub mod ProductiveVisits
pub mod Fitting
pub mod References

-- The laws behind the public calls.
pub mod Counts
pub mod Plans
pub mod Lists
pub mod Outcomes
pub mod Carried

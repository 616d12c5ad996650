-- The proofs of the demands, and that each call has one end.
pub mod Readings
pub mod Determined
pub mod Named
pub mod Judged
pub mod Asking
pub mod Demand1
pub mod Translated
pub mod RoundTrips
pub mod Running
pub mod Demand2
pub mod Demand3
pub mod Listings

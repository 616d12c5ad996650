pub mod Cases
pub mod Bits
pub mod Bytes
pub mod Rows
pub mod Words
pub mod Searches
pub mod Gathers
pub mod Tallies

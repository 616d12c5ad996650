-- The laws of elements that are kept.
pub mod Keeping

-- The laws of reading files in order.
pub mod Handed
pub mod Opening

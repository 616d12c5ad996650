-- The laws behind the shredder.
pub mod Rows
pub mod Tables
pub mod Whole

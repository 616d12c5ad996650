-- The laws behind the conversions of files.
pub mod Conversions

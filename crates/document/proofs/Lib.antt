-- The laws behind the loop over tokens.
pub mod Reading

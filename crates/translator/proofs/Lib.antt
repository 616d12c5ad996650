-- The laws of the translator.
pub mod Counting
pub mod Checked
pub mod Translations

-- The document file.
pub mod Tre

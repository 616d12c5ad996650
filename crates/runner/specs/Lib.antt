-- A run over files.
pub mod Run

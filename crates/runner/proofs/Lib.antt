-- The laws of a run over files, and what is proved of it.
pub mod Prepared
pub mod Files
pub mod Promises
pub mod Theorems

pub mod File
pub mod Encoded
pub mod Reasons

pub mod Parts
pub mod Laws
pub mod Written
pub mod File
pub mod Reasons

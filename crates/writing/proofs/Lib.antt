pub mod Puts
pub mod Writing
pub mod Stored
pub mod Toward
pub mod Told

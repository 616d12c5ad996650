pub mod Places
pub mod Stretch
pub mod Tables
pub mod Elements
pub mod Reader

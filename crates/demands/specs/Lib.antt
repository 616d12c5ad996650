-- What is promised of the public calls together.
pub mod Demands

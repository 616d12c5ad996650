-- The two laws of the document file, what they lean on, and the numbers of its refusals.
pub mod Climbs
pub mod Runs
pub mod File
pub mod Turns
pub mod Reasons

-- The laws behind the reader, the two laws of the file, what callers know of a reading, and the numbers of its refusals.
pub mod MaskReading
pub mod File
pub mod Known
pub mod Reasons

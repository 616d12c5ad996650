-- The program of a query, written as a file.
pub mod Translate
pub mod Inside

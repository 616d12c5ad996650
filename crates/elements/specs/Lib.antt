-- How elements are kept.
pub mod Inside

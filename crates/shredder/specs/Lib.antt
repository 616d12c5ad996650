-- The tables of elements, as bytes.
pub mod Inside

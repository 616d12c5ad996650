-- The document of elements, as bytes.
pub mod Inside

-- Steps that are written behind others.
pub mod Inside

-- The tables file.
pub mod Edg
pub mod Inside

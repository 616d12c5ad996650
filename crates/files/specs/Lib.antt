-- The files of a call.
pub mod Files
pub mod Inside

-- Lent buffers: what a call answers, and what it leaves in them.
pub mod Lent
pub mod Inside

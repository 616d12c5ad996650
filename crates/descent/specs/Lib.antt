-- The descent: the table of codes, what is due at a place of the query, and what is done there.
pub mod Inside

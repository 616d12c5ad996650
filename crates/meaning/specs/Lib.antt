-- The rules of docs/RULES.md as definitions, but for what is about a file's bytes.
pub mod Limits
pub mod Sets
pub mod Lists
pub mod Relations
pub mod Graphs
pub mod Documents
pub mod Queries
pub mod Operations
pub mod Announcements
pub mod Translation
pub mod Refused
pub mod Inside

-- The listing's text.
pub mod Listing
pub mod Inside

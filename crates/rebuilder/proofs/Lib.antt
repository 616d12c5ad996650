-- The laws behind the rebuilder.
pub mod Closes
pub mod Closing
pub mod Tokens
pub mod Whole

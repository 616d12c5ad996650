-- The laws behind the listing's text.
pub mod Decimals
pub mod Numbers
pub mod LineLaws
pub mod Turns
pub mod Example

pub mod Lists
pub mod Numbers
pub mod Tabling
pub mod Rows
pub mod File
pub mod Reasons

pub mod Rows
pub mod Algebra
pub mod Announcement
pub mod Operations
pub mod Loop

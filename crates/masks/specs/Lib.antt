pub mod Announcement
pub mod Inside

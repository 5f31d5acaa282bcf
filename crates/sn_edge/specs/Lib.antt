pub mod Needs
pub mod Shown
pub mod Unread

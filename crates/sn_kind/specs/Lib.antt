pub mod Kinds
pub mod Unread

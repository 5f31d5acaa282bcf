pub mod Links
pub mod Wired
pub mod Lost

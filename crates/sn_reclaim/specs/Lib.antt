pub mod Attempts
pub mod Lefts

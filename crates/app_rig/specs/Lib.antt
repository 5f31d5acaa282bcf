pub mod Links
pub mod Rigs

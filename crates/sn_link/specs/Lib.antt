pub mod Counts
pub mod Link

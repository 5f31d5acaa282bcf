pub mod Breaths

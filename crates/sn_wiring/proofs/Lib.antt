pub mod Opened
pub mod Rows
pub mod Entries
pub mod Staying
mod Losses
mod Queued
mod Scans
pub mod Fits
pub mod Lines
pub mod Comings
mod Goings

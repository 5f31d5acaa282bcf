pub mod Cells
pub mod Pools
pub mod Steps
pub mod Scanning
pub mod Transfers
pub mod Dealing
pub mod Closing
pub mod CellsRead
pub mod Events
mod WordExample

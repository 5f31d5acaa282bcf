pub mod Appended
pub mod Contents
pub mod Counts
pub mod Memory
pub mod Told
pub mod Views

pub mod ClassPlaces
pub mod Decimals
pub mod Links
pub mod Orders
pub mod Reading
pub mod Walks

mod SlotSums
mod FreePlaces
mod Writes
mod Views
pub mod Puts

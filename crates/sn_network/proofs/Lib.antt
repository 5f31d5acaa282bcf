mod Sums
mod Found
mod Called
mod GaveUp
mod FirstPlaces
mod Pushed
mod Removed
mod Reconfigured
mod Taken
mod Linked
mod Acted
mod Ordered
mod Bare
mod Committed
mod Empty
mod Orderly
mod Cut
pub mod Counted
mod QueuedRows
pub mod Noted

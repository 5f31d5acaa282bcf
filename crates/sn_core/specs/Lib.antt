pub mod Lane
pub mod Seat
pub mod Core
pub mod Ownership
pub mod Sound
pub mod Invariant
pub mod State

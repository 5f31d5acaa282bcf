pub mod Readings
pub mod Places
pub mod Slots
pub mod Moving
mod Sending
pub mod Running
pub mod Calling
pub mod Looping
pub mod Making
pub mod Handling
pub mod Hands
pub mod Naming
pub mod AtPorts
pub mod Leaving
pub mod LaneCalls
pub mod Playing
pub mod Gaining
pub mod OtherEnds
pub mod RowReadings
pub mod DetachReadings
pub mod Repeating
mod DetachPlays
mod LanePlays
mod BenchFields
pub mod OnTrays
pub mod Filing
pub mod Claiming
mod Examples

pub mod Lists
pub mod Yielded
mod TakenEnds
mod Emptying
mod LaneTurns
mod SeatTurns
mod KeptTurns
mod Wired
mod Ending
mod ToldEnds
mod PoolTurns
mod LaidTurns
mod SeatedTurns
mod NewEnds
mod OpenedSeats

mod Sets
mod Releases
mod Counts
mod Waits
mod Placed
mod RankedNames
mod RanksAreNames
mod Among

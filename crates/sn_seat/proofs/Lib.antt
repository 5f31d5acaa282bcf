mod EndLists
mod Telling
mod EndKinds
mod LedgerEnds
mod LedgerSteps
mod PacketTelling
mod Gating
mod TrayParts
mod LaneRows
mod Links
mod ClaimRows
mod AttachRows
pub mod Again
mod DetachRows
mod Opened
mod GiveRows
mod SettleRows
mod FreeNames
mod Outcomes
pub mod Lending

-- What a claim leaves on a tray.
use Rattle.std.specs.Prelude.{◌≡◌, ◌<◌, ◌≤◌, Bool, true, false}
use Rattle.sn_journal.specs.HandOvers.{PacketName}
use Rattle.sn_journal.specs.declared.entry.Entry.TheVariants.{Dry, Got}
use Rattle.sn_packet.specs.Packet.{highest_turn, most_packets}
use Rattle.sn_app.specs.Desk.{Tray, after_entry, freed}

-- a packet came and is free, with its entry
pub record GotRead (t u : Tray) : Type 0 where
  pub name : PacketName
  pub number : name.0 < most_packets
  pub turn : name.1 ≤ highest_turn
  pub tray : u ≡ freed name (after_entry (Got name.0 name.1) t)

-- or the group had none
abbrev pub ClaimRead : Tray → Bool → Tray → Type 0
ClaimRead t true u = GotRead t u
ClaimRead t false u = u ≡ after_entry Dry t

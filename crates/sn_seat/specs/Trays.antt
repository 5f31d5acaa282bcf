-- A seat as a tray of a desk.
use Rattle.std.specs.Prelude.{ℕ, true, false, List, [], Option, length, map}
use Rattle.sn_core.specs.declared.events.Side.{Side}
use Rattle.sn_journal.specs.declared.entry.Entry.{Entry}
use Rattle.sn_names.specs.Rosters.{RosterRows}
use Rattle.sn_packet.specs.Hold.{frees_of, used_of}
use Rattle.sn_packet.specs.Packet.{PacketState}
use Rattle.sn_app.specs.Counts.{CounterRows}
use Rattle.sn_app.specs.Desk.{Constants, End, Tray, name_of, nothing}
use Rattle.sn_app.specs.World.{Used}
use Rattle.sn_seat.specs.Fitting.{Belongs, Bond}
use Rattle.sn_seat.specs.Ledgers.{wiring_of}
use Rattle.sn_seat.specs.SeatEnds.{Wire, ends_in, has_wire, wires}
use Rattle.sn_seat.specs.declared.seat.Seat.{Seat}
use Rattle.sn_seat.specs.declared.shared.Shared.{Shared}

-- what never changes: any entry may come, and none from a script
abbrev pub constants_by : List (ℕ × ℕ) → RosterRows → List (List ℕ) → List Wire → Constants
constants_by stops roster captures ends = record {
  may = λ entry. true;
  stops = stops;
  scripted = false;
  roster = roster;
  captures = captures;
  has_end = has_wire ends;
}

-- a tray with nothing under way at the group
abbrev pub tray_by : Constants → List Entry → ℕ → List PacketState → (ℕ → Side → End) → CounterRows → List (Option (List ℕ))
    → Tray
tray_by constants past gates frees ends counters files = record {
  log = record { past = past; constants = constants };
  gates = gates;
  free = map name_of frees;
  pending = nothing;
  ends = ends;
  counters = counters;
  files = files;
}

-- A seat's tray, with the captures that it shares: the journal is the log, the free packets are those of the hold, and the ends
-- stand as they are.
abbrev pub seat_tray : List (List ℕ) → Seat → Tray
seat_tray captures seat =
    tray_by (constants_by seat.stops.items seat.roster captures (wires seat.ledger.ends.items)) seat.ledger.journal.entries
    seat.gates (frees_of seat.ledger.hold) (ends_in seat.ledger.ends.items) seat.counters seat.files.items

-- no captures
abbrev pub no_captures : List (List ℕ)
no_captures = []

-- the packets that are held and not free, by their places
abbrev pub seat_used : Seat → Used
seat_used seat = used_of seat.ledger.hold

abbrev pub captures_of : Shared → List (List ℕ)
captures_of shared = shared.captures.items

-- a seat's tray over what it shares
abbrev pub tray_in : Shared → Seat → Tray
tray_in shared seat = seat_tray (captures_of shared) seat

-- to what a seat belongs; no call changes it but that its listener meets its speaker again
abbrev pub bond_of : Seat → Bond
bond_of seat = record {
  worker = seat.worker;
  wiring = wiring_of seat.ledger;
  captures = length seat.roster.captures;
  lanes = length seat.roster.lanes;
}

-- shared objects are those to which a seat belongs
abbrev pub Fits : Seat → Shared → Type 0
Fits seat shared =
    Belongs (bond_of seat) shared.lanes.items shared.group shared.channels.items (length shared.captures.items)

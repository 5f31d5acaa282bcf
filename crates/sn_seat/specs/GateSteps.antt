-- What a seat's gate does.
use Rattle.std.specs.Prelude.{ℕ, ◌≡◌, true, false, List, Result, Ok, Err}
use Rattle.sn_journal.specs.declared.entry.Entry.TheVariants.{Stop}
use Rattle.sn_app.specs.Desk.{after_entry, gate_passed}
use Rattle.sn_app.specs.Gates.{stops_here}
use Rattle.sn_app.specs.declared.halt.Halt.{Halt}
use Rattle.sn_app.specs.declared.halt.Halt.TheVariants.{Stopped, OutOfMemory}
use Rattle.sn_seat.specs.Trays.{seat_tray}
use Rattle.sn_seat.specs.declared.seat.Seat.{Seat}

-- no stop line names the gate, and it is passed
pub record Passed (old new : Seat) : Type 0 where
  pub on : (captures : List (List ℕ)) → stops_here (seat_tray captures old) ≡ false
  pub tray : (captures : List (List ℕ)) → seat_tray captures new ≡ gate_passed (seat_tray captures old)

-- a stop line names it, and the worker stops with the entry Stop
pub record StoppedHere (old new : Seat) : Type 0 where
  pub here : (captures : List (List ℕ)) → stops_here (seat_tray captures old) ≡ true
  pub tray : (captures : List (List ℕ)) → seat_tray captures new ≡ after_entry Stop (seat_tray captures old)

-- memory was refused before it
pub record Refused (old new : Seat) : Type 0 where
  pub tray : (captures : List (List ℕ)) → seat_tray captures new ≡ seat_tray captures old

abbrev pub GateStep : Seat → Result Unit Halt → Seat → Type 0
GateStep old (Ok on) new = Passed old new
GateStep old (Err Stopped) new = StoppedHere old new
GateStep old (Err OutOfMemory) new = Refused old new

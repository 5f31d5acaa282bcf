use Rattle.std.proofs.Common.{◌≡◌, ◌-◌, ◌<◌, ℕ}
use Rattle.sn_core.specs.declared.events.Side.{Side}
use Rattle.sn_packet.specs.Hold.{frees_of}
use Rattle.sn_app.specs.declared.end_state.EndState.TheVariants.{Out}
use Rattle.sn_app.proofs.OnTrays.{Leads}
use Rattle.sn_seat.specs.LaneSteps.{Stands}
use Rattle.sn_seat.specs.Settling.{LeavesFiles, settles_from}
use Rattle.sn_seat.specs.Trays.{bond_of, captures_of, seat_tray}
use Rattle.sn_seat.proofs.seat.Seat.settle_first.Given as goal

-- the interlinks before this one are settled, the others are left to be
abbrev pub invariant-loop-lane : goal.invariant-loop-lane
invariant-loop-lane l = record {
  leads : Leads (settles_from (l.lanes - l.lane) l.lane) (settles_from l.lanes 0)
      (seat_tray (captures_of l.shared) l.fn.self) (seat_tray (captures_of l.shared) l.self);
  out : (other : ℕ) (side : Side) → other < l.lane → Stands l.self.ledger.ends.items other side Out;
  frees : frees_of l.self.ledger.hold ≡ frees_of l.fn.self.ledger.hold;
  leaves : LeavesFiles (seat_tray (captures_of l.shared) l.fn.self) (seat_tray (captures_of l.shared) l.self);
  kept : bond_of l.self ≡ bond_of l.fn.self;
}

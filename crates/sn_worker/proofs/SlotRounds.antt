-- What a round of a slot leaves, from how its worker ran over the seat that was lent.
use Rattle.std.proofs.Common.{◌≡◌, ℕ, false, is_err, length, List, OnOk, Result, Ok, Err, refl, sym, ap, subst}
use Rattle.sn_app.specs.Answers.{AnswersCase}
use Rattle.sn_app.specs.Desk.{Constants}
use Rattle.sn_app.specs.Runs.{Runs, stands_at}
use Rattle.sn_app.specs.World.{desk_of}
use Rattle.sn_app.specs.declared.halt.Halt.{Halt}
use Rattle.sn_seat.specs.Fitting.{Belongs, Bond}
use Rattle.sn_seat.specs.Lenders.{lent_as}
use Rattle.sn_seat.specs.Trays.{Fits, bond_of, seat_tray, seat_used}
use Rattle.sn_seat.specs.declared.seat.Seat.{Seat}
use Rattle.sn_seat.specs.declared.shared.Shared.{Shared}
use Rattle.sn_worker.specs.Floors.{lent_floor}
use Rattle.sn_worker.specs.SlotTurns.{slot_round}
use Rattle.sn_worker.specs.SlotViews.{RoundRead, slot_life, slot_met, slot_plan, slot_tray, slot_used}
use Rattle.sn_worker.specs.Workers.{kept_of, slot_life_of, world_around}
use Rattle.sn_worker.specs.declared.slot.Slot.{Slot}
use Rattle.sn_worker.proofs.Works.{run_stays}

pub floor_met : (n : ℕ) (bond : Bond) → lent_floor (lent_as n bond) ≡ bond.wiring.met
unfolding lent_as
floor_met n bond = refl

-- the shared objects are still those to which it belongs
pub still_fits : (shared : Shared) (seat later : Seat) → bond_of later ≡ bond_of seat → Fits seat shared → Fits later shared
still_fits shared seat later same h =
    subst (λ (bond : Bond). Belongs bond shared.lanes.items shared.group shared.channels.items (length shared.captures.items))
    (sym same) h

module _ (number : ℕ) (before after : Slot) where
  -- a round over this seat, with these captures, and then with these
  abbrev pub RoundRan : ℕ → Seat → List (List ℕ) → List (List ℕ) → Result Unit Halt → Type 0
  RoundRan floor seat first later r =
      Runs (slot_round (slot_plan before) before.breaths floor before.keep number
      (slot_life_of before.worker before.breathed (seat_used seat) (seat_tray first seat)))
      (world_around before.worker (seat_used seat) (seat_tray first seat))
      (world_around after.worker (slot_used after) (slot_tray later after)) (kept_of before.worker) (kept_of after.worker)
      (stands_at (slot_life later after) r)

  -- the captures stay
  pub same_captures : (floor : ℕ) (seat : Seat) (first later : List (List ℕ)) (r : Result Unit Halt)
      → RoundRan floor seat first later r → later ≡ first
  same_captures floor seat first later r run =
      ap (λ (c : Constants). c.captures) (run_stays (seat_tray first seat) (slot_tray later after) _ _ _ _ run).constants

  read_over : (captures : List (List ℕ)) (r : Result Unit Halt) → is_err r ≡ false
      → RoundRan (slot_met before) before.seat captures captures r → RoundRead captures number before after
  unfolding AnswersCase desk_of
  read_over captures (Ok done) went run = record {
    entries = run.answers.by_case.entries;
    past = run.answers.by_case.past;
    reads = run.answers.by_case.gives;
  }
  read_over captures (Err halt) went run = absurd cc

  pub round_was : (name : ℕ) (seat : Seat) (captures first later : List (List ℕ)) (r : Result Unit Halt)
      → seat ≡ before.seat → first ≡ captures → is_err r ≡ false
      → RoundRan (lent_floor (lent_as name (bond_of seat))) seat first later r → RoundRead captures number before after
  round_was name seat captures first later r lent shared went run =
      let stay : later ≡ first = same_captures (lent_floor (lent_as name (bond_of seat))) seat first later r run in
      let least : RoundRan (bond_of seat).wiring.met seat first later r =
      subst (λ n. RoundRan n seat first later r) (floor_met name (bond_of seat)) run in
      let over : RoundRan (bond_of seat).wiring.met seat first first r =
      subst (λ cs. RoundRan (bond_of seat).wiring.met seat first cs r) stay least in
      let here : RoundRan (bond_of seat).wiring.met seat captures captures r =
      subst (λ cs. RoundRan (bond_of seat).wiring.met seat cs cs r) shared over in
      read_over captures r went (subst (λ (s : Seat). RoundRan (bond_of s).wiring.met s captures captures r) lent here)

-- what follows where a call went through
pub went_on : {A : Type 0} (r : Result Unit Halt) → is_err r ≡ false → OnOk r A → A
went_on (Ok done) went h = h
went_on (Err halt) went h = absurd cc

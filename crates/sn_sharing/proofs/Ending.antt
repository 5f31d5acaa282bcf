-- What closed workers leave, from where each belongs and from what each journal tells.
use Rattle.std.proofs.Common.{◌≡◌, ◌≢◌, ℕ, ◌+◌, ◌≤◌, ◌==◌, ◌&&◌, Bool, true, false, cond, List, [], ◌∷◌, ◌++◌, Option, Some, None}
use Rattle.std.proofs.Common.{length, map, slice_get, refl, sym, ap, ap₂, ◌∙◌, subst, inl, inr, arith, append-nil}
use Rattle.std.proofs.lemmas.Bool.{eq-eqb}
use Rattle.std.proofs.lemmas.Bool.Decides.{eqb_tells}
use Rattle.std.proofs.lemmas.Option.{get_or_from_slice_get, slice_get_within}
use Rattle.sn_app.specs.Desk.{same_side}
use Rattle.sn_app.specs.declared.end_state.EndState.TheVariants as desk
use Rattle.sn_core.specs.declared.events.Side.{Side}
use Rattle.sn_core.specs.declared.events.Side.TheVariants.{Rx, Tx}
use Rattle.sn_interlink.specs.Ends.{LaneId}
use Rattle.sn_interlink.specs.declared.view.EndState.{EndState}
use Rattle.sn_interlink.specs.declared.view.EndState.TheVariants as lane
use Rattle.sn_scenario.specs.Scenarios.{AreLanes, IsLane}
use Rattle.sn_scenario.specs.declared.lane.Lane.{Lane}
use Rattle.sn_seat.specs.SeatEnds.{Numbered, desk_end, desk_state, end_in, ends_in, side_in, times_at, wires}
use Rattle.sn_seat.specs.Tellings.{seat_ends}
use Rattle.sn_seat.specs.Told.{log_at, told_entry, told_log}
use Rattle.sn_seat.specs.declared.seat.Seat.{Seat}
use Rattle.sn_seat.specs.declared.seat_end.SeatEnd.{SeatEnd}
use Rattle.sn_seat.specs.declared.shared.Shared.{Shared}
use Rattle.sn_sharing.proofs.Lists.{column_at, row_there, some_same}
use Rattle.sn_sharing.proofs.Wired.{first_of_two, wire_end, wire_first, wire_on, wired_as, first_or}
use Rattle.sn_sharing.specs.Bonds.{AreBonded, wires_at, wires_on, worker_on}
use Rattle.sn_sharing.specs.Closings.{AreOut}
use Rattle.sn_sharing.specs.LeftEnds.{HasOut, end_of, said}
use Rattle.sn_sharing.specs.Receipts.{AreClosable}

-- AN END ON THE DESK, AND ITS LOG

both_sides : (side : Side) → same_side side side ≡ true
both_sides Tx = refl
both_sides Rx = refl

-- the end of an interlink stands on the desk as it is
pub stands : (number : ℕ) (side : Side) (ends : List Numbered) (end : SeatEnd) → end_of number ends ≡ Some end
    → side_in end ≡ side → ends_in ends number side ≡ desk_end (end_in end)
stands number side [] end there is = absurd (let e : None ≡ Some end = there in cc)
stands number side (x ∷ ends) end there is = by (x.0 == number) there (stands number side ends end)
  where
    by : (b : Bool) → cond b (Some x.1) (end_of number ends) ≡ Some end
        → (end_of number ends ≡ Some end → side_in end ≡ side → ends_in ends number side ≡ desk_end (end_in end))
        → cond (b && same_side (side_in x.1) side) (desk_end (end_in x.1)) (ends_in ends number side) ≡ desk_end (end_in end)
    by true e rest =
        let same : x.1 ≡ end = some_same x.1 end e in
        let at : same_side (side_in x.1) side ≡ true =
        ap₂ (λ (y : SeatEnd) s. same_side (side_in y) s) same (sym is) ∙ both_sides (side_in end) in
        rw at (ap (λ (y : SeatEnd). desk_end (end_in y)) same)
    by false e rest = rest e is

pub out_of_desk : (state : EndState) → desk_state state ≡ desk.Out → state ≡ lane.Out
out_of_desk lane.Out e = refl
out_of_desk lane.Up e = absurd cc
out_of_desk lane.Closing e = absurd cc

absent : (number : ℕ) (ends : List Numbered) → times_at number ends ≡ 0 → log_at number ends ≡ []
absent number [] none = refl
absent number (x ∷ ends) none =
    elim (eqb_tells x.0 number) [
      | inl same ↦ absurd (omega (arith, none, ap {B = ℕ} (λ b. cond b 1 0) same.0))
      | inr differs ↦ rw differs.0 (absent number ends (omega (arith, none, ap {B = ℕ} (λ b. cond b 1 0) differs.0)))
    ]

-- where an interlink has one end at most, its log is what that end says
pub log_of_end : (number : ℕ) (ends : List Numbered) → times_at number ends ≤ 1
    → log_at number ends ≡ map told_entry (said (end_of number ends))
log_of_end number [] once = refl
log_of_end number (x ∷ ends) once = by (x.0 == number) once (absent number ends) (log_of_end number ends)
  where
    by : (b : Bool) → cond b 1 0 + times_at number ends ≤ 1 → (times_at number ends ≡ 0 → log_at number ends ≡ [])
        → (times_at number ends ≤ 1 → log_at number ends ≡ map told_entry (said (end_of number ends)))
        → cond b (told_log (end_in x.1)) [] ++ log_at number ends ≡ map told_entry (said (cond b (Some x.1) (end_of number ends)))
    by true few none rest =
        ap (λ l. told_log (end_in x.1) ++ l) (none (omega (arith, few))) ∙ append-nil (told_log (end_in x.1))
    by false few none rest = rest (omega (arith, few))

-- A WORKER'S END OF AN INTERLINK

-- what a worker's wires say of an interlink between two workers
module _ (worker number : ℕ) (lanes : List Lane) (ids : List LaneId) (line : Lane) (id : LaneId)
    (there : slice_get lanes number ≡ Some line) (at : slice_get ids number ≡ Some id) (apart : line.tx ≢ line.rx) where
  on_side : (side : Side) → wire_first number (wires_on side worker 0 lanes ids)
      ≡ cond {A = Option (Side × LaneId)} (worker_on side line == worker) (Some (side, id)) None
  on_side side =
      let from : number ≡ 0 + number = omega arith in
      ap (λ n. wire_first n (wires_on side worker 0 lanes ids)) from ∙ wire_on side worker 0 lanes ids number line id there at

  wired : wire_first number (wires_at worker lanes ids)
      ≡ first_or (cond {A = Option (Side × LaneId)} (line.tx == worker) (Some (Tx, id)) None)
      (cond {A = Option (Side × LaneId)} (line.rx == worker) (Some (Rx, id)) None)
  wired =
      first_of_two number (wires_on Tx worker 0 lanes ids) (wires_on Rx worker 0 lanes ids)
      ∙ ap₂ first_or (on_side Tx) (on_side Rx)

  pub wired_tx : line.tx ≡ worker → wire_first number (wires_at worker lanes ids) ≡ Some (Tx, id)
  wired_tx is = wired ∙ rw (eq-eqb line.tx worker is) refl

  pub wired_rx : line.rx ≡ worker → wire_first number (wires_at worker lanes ids) ≡ Some (Rx, id)
  wired_rx is =
      wired
      ∙ (elim (eqb_tells line.tx worker) [
        | inl same ↦ absurd (apart (same.1 ∙ sym is))
        | inr differs ↦ rw (differs.0, eq-eqb line.rx worker is) refl
      ])

-- the end that a worker has by its wires
pub record Wired (number : ℕ) (side : Side) (id : LaneId) (ends : List Numbered) : Type 0 where
  pub end : SeatEnd
  pub there : end_of number ends ≡ Some end
  pub side_is : side_in end ≡ side
  pub lane_is : (end_in end).lane ≡ id

pub wired_end : (number : ℕ) (side : Side) (id : LaneId) (ends : List Numbered) → wire_first number (wires ends) ≡ Some (side, id)
    → Wired number side id ends
wired_end number side id ends is = by (end_of number ends) refl (sym (wire_end number ends) ∙ is)
  where
    by : (o : Option SeatEnd) → end_of number ends ≡ o → wired_as o ≡ Some (side, id) → Wired number side id ends
    by None e lacks = absurd cc
    by (Some end) e has =
        let same : (side_in end, (end_in end).lane) ≡ (side, id) = some_same _ _ has in
        record {
          end = end;
          there = e;
          side_is = ap (λ (p : Side × LaneId). p.0) same;
          lane_is = ap (λ (p : Side × LaneId). p.1) same;
        }

-- it is out, among those of all workers
pub out_at : (number worker : ℕ) (side : Side) (id : LaneId) (seats : List Seat) (seat : Seat)
    → slice_get seats worker ≡ Some seat → AreOut seats → Wired number side id (seat_ends seat)
    → HasOut side number worker id (map seat_ends seats)
out_at number worker side id seats seat here out h = record {
  end = h.end;
  there = ap (end_of number) (column_at seat_ends seats worker seat [] here) ∙ h.there;
  side_is = h.side_is;
  lane_is = h.lane_is;
  out =
      out_of_desk (end_in h.end).state
      (ap (λ e. e.state) (sym (stands number side (seat_ends seat) h.end h.there h.side_is)) ∙ out worker seat here number side);
}

-- an interlink of a scenario
pub lane_there : (workers : ℕ) (lanes : List Lane) (number : ℕ) (line : Lane) → AreLanes workers lanes
    → slice_get lanes number ≡ Some line → IsLane workers line
lane_there workers lanes number line are there =
    subst (IsLane workers) (get_or_from_slice_get lanes number line line there)
    (are.each number line (slice_get_within lanes number line there))

-- each interlink may be closed
pub closable : (lanes : List Lane) (shared : Shared) (seats : List Seat) → AreLanes (length seats) lanes
    → length shared.lanes.items ≡ length lanes → AreBonded lanes shared seats → AreOut seats
    → AreClosable lanes shared.lanes.items (map seat_ends seats)
closable lanes shared seats are as_many bonds out = record {
  as_many = as_many;
  few = are.few;
  each =
      λ number line id there at.
      let is = lane_there (length seats) lanes number line are there in
      let t = row_there seats line.tx is.tx in
      let r = row_there seats line.rx is.rx in
      record {
        tx =
            out_at number line.tx Tx id seats t.row t.there out
            (wired_end number Tx id (seat_ends t.row)
            (ap (wire_first number) (bonds line.tx t.row t.there).ends
            ∙ wired_tx line.tx number lanes shared.lanes.items line id there at is.apart refl));
        rx =
            out_at number line.rx Rx id seats r.row r.there out
            (wired_end number Rx id (seat_ends r.row)
            (ap (wire_first number) (bonds line.rx r.row r.there).ends
            ∙ wired_rx line.rx number lanes shared.lanes.items line id there at is.apart refl));
        apart = is.apart;
      };
}

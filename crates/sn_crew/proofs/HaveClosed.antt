-- How a crew ended, from what its closed slots left and what is left of all that they shared.
use Rattle.std.proofs.Common.{◌≡◌, ◌∙◌, ℕ, List, Some, length, map, refl, sym, ap, arith, subst}
use Rattle.std.specs.Prelude.{slice_get}
use Rattle.std.proofs.lemmas.List.{length-map}
use Rattle.std.proofs.lemmas.Option.{slice_get_within}
use Rattle.sn_app.specs.Desk.{Desk, Tray}
use Rattle.sn_journal.specs.HandOvers.{PacketName}
use Rattle.sn_scenario.specs.Scenarios.{ScenarioForm}
use Rattle.sn_seat.specs.Trays.{captures_of, tray_in}
use Rattle.sn_seat.specs.declared.seat.Seat.{Seat}
use Rattle.sn_seat.specs.declared.shared.Shared.{Shared}
use Rattle.sn_sharing.proofs.Lists.{ThereIs, column_there, from_row, map_twice, row_there, some_same}
use Rattle.sn_sharing.specs.Bonds.{AreBonded, IsBondAt}
use Rattle.sn_sharing.specs.Closings.{AreFifo, AreFree, AreHeld, AreKept, AreLogs, AreOut, IsBalanced}
use Rattle.sn_sharing.specs.Columns.{counters_of, files_of, past_of, pasts}
use Rattle.sn_sharing.specs.Kept.{IsSortOf}
use Rattle.sn_sharing.specs.LeftEnds.{lists}
use Rattle.sn_sharing.specs.declared.closing.Closed.{Closed}
use Rattle.sn_crew.specs.Crews.{EachAt, IsSharedBy, PlaceAfter, stand_of}
use Rattle.sn_crew.specs.Endings.{AreListed, AreReplays, HaveEnded, IsReplay, LeaveSeats}
use Rattle.sn_crew.specs.Endings.{entries_at, left_by}
use Rattle.sn_crew.specs.Stands.{Stand}
use Rattle.sn_crew.specs.declared.place.Place.{Place}
use Rattle.sn_crew.proofs.SeatsLeft.{HaveEnds, ends_of}

module _ (form : ScenarioForm) (shared : Shared) (rounds : ℕ) (places : List Place) (seats : List Seat)
    (after : EachAt (PlaceAfter form shared rounds) places) (left : LeaveSeats shared places seats) where
  -- the place of a seat
  place_of : (worker : ℕ) (seat : Seat) → slice_get seats worker ≡ Some seat → ThereIs places worker
  place_of worker seat there =
      row_there places worker (omega (arith, slice_get_within seats worker seat there, left.as_many))

  pub bonded : AreBonded form.lanes shared seats
  bonded worker seat there =
      let place = place_of worker seat there in
      subst (IsBondAt form.lanes shared worker) (sym (left.each worker place.row seat place.there there).bond)
      (after worker place.row place.there).slot.of.bond

  pub out : AreOut seats
  out worker seat there =
      let place = place_of worker seat there in
      (left.each worker place.row seat place.there there).out

  pub free : AreFree seats
  free worker seat there =
      let place = place_of worker seat there in
      (left.each worker place.row seat place.there there).free

  -- the desks at the workers' ends
  have : HaveEnds shared places seats
  have = ends_of shared places seats left

  abbrev stands : List Stand
  stands = map (λ place. stand_of shared place.slot) places

  abbrev ends : List Desk
  ends = have.ends

  -- what the trays at the ends show is what those of the seats show
  column : {B : Type 0} (f : Tray → B)
      → map (λ (seat : Seat). f (tray_in shared seat)) seats ≡ map (λ (end : Desk). f end.tray) ends
  column f =
      sym (map_twice (tray_in shared) f seats)
      ∙ (ap (map f) (sym have.trays) ∙ map_twice (λ (end : Desk). end.tray) f ends)

  replays : AreReplays form (captures_of shared) rounds stands ends
  replays = record { as_many = as_many; each = each }
    where
      as_many : length ends ≡ length stands
      as_many = have.as_many ∙ sym (length-map places (λ place. stand_of shared place.slot))

      each : (worker : ℕ) (stand : Stand) (end : Desk) → slice_get stands worker ≡ Some stand → slice_get ends worker ≡ Some end
          → IsReplay form (captures_of shared) rounds worker stand end
      each worker stand end stand_there end_there =
          let place = from_row (λ place. stand_of shared place.slot) places worker stand stand_there in
          subst (λ s. IsReplay form (captures_of shared) rounds worker s end) place.is (record {
            after = (after worker place.row place.there).slot.after;
            closing = have.closings worker place.row end place.there end_there;
          })

  listed : (kept : List (List PacketName)) → AreKept seats kept → AreListed ends kept
  listed kept are worker end names end_there names_there =
      let seat : ThereIs seats worker =
      row_there seats worker (omega (arith, slice_get_within ends worker end end_there, have.as_many, left.as_many)) in
      let at_end = column_there (λ (d : Desk). d.tray) ends worker end end_there in
      let at_seat = column_there (tray_in shared) seats worker seat.row seat.there in
      let same : end.tray ≡ tray_in shared seat.row =
      some_same end.tray (tray_in shared seat.row) (sym at_end ∙ (ap (λ ts. slice_get ts worker) have.trays ∙ at_seat)) in
      subst (λ t. IsSortOf t.free names) (sym same) (are.each worker seat.row names seat.there names_there)

  module _ (closed : Closed) (journals : pasts closed.journals.items ≡ map past_of seats) where
    told : pasts closed.journals.items ≡ map entries_at ends
    told = journals ∙ column (λ t. t.log.past)

    pub have_ended : IsSharedBy form shared
        → closed.counters.items ≡ map counters_of seats
        → lists closed.files.items ≡ map files_of seats
        → AreLogs (pasts closed.journals.items) form.lanes closed.lanes.items closed.group
        → AreFifo closed.lanes.items
        → IsBalanced shared.group.opened closed.group
        → AreKept seats (lists closed.kept.items)
        → AreHeld (pasts closed.journals.items) (lists closed.kept.items)
        → (count : ℕ) → count ≡ left_by form stands
        → HaveEnded form (captures_of shared) rounds stands (record { closed = closed; left = count; scenario = form })
    have_ended is counters files logs fifo balance kept held count count_is = record {
      ends = ends;
      replays = replays;
      journals = told;
      counters = counters ∙ column (λ t. t.counters);
      files = files ∙ column (λ t. t.files);
      logs = subst (λ js. AreLogs js form.lanes closed.lanes.items closed.group) told logs;
      fifo = fifo;
      balance = subst (λ ps. IsBalanced ps closed.group) is.group_is.packets balance;
      all_kept = kept.as_many ∙ (left.as_many ∙ sym have.as_many);
      listed = listed (lists closed.kept.items) kept;
      held = subst (λ js. AreHeld js (lists closed.kept.items)) told held;
      left_is = count_is;
      scenario = refl;
    }

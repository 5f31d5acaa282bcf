-- The seats that a run opens with.
use Rattle.std.proofs.Common.{◌≡◌, ℕ, zero, suc, ◌+◌, ◌<◌, ◌==◌, ◌&&◌, ◌||◌, Bool, true, false, cond, List, [], ◌∷◌, ◌++◌}
use Rattle.std.proofs.Common.{◌⊎◌, Option, Some, None, length, replicate, map, slice_get, refl, sym, ap, ap₂, ◌∙◌, subst, inl}
use Rattle.std.proofs.Common.{inr, arith}
use Rattle.std.proofs.lemmas.Bool.{eq-eqb, eqb-true}
use Rattle.std.proofs.lemmas.List.{length-map, map-id}
use Rattle.std.proofs.lemmas.List.Folds.{list_any-append}
use Rattle.std.proofs.lemmas.Option.{slice_get_within}
use Rattle.std.specs.List.{list_any}
use Rattle.sn_app.specs.Desk.{nothing, out_end, same_side}
use Rattle.sn_channel.specs.Ends.{ChannelId, SpeakerLog, speaker_log}
use Rattle.sn_core.specs.declared.events.Side.{Side}
use Rattle.sn_core.specs.declared.events.Side.TheVariants.{Rx, Tx}
use Rattle.sn_group.specs.Seats.{GroupId}
use Rattle.sn_interlink.specs.Ends.{LaneId}
use Rattle.sn_scenario.specs.Plans.{roster_of}
use Rattle.sn_scenario.specs.Scenarios.{AreLanes, ScenarioForm}
use Rattle.sn_scenario.specs.declared.lane.Lane.{Lane}
use Rattle.sn_seat.specs.Fitting.{Bond}
use Rattle.sn_seat.specs.Openings.{AreNew, all_ends, new_counters, new_tray}
use Rattle.sn_seat.specs.SeatEnds.{Wire, ends_in, has_wire, wire_is_at, wires}
use Rattle.sn_seat.specs.Trays.{bond_of}
use Rattle.sn_seat.specs.declared.ends.Ends.{Ends}
use Rattle.sn_seat.specs.declared.seat.Seat.{Seat}
use Rattle.sn_seat.specs.declared.shared.Shared.{Shared}
use Rattle.sn_sharing.proofs.Ending.{lane_there}
use Rattle.sn_sharing.proofs.Lists.{column_at, from_row, map_twice, row_there, some_same}
use Rattle.sn_sharing.proofs.NewEnds.{Apart, ends_new, new_are_out, new_wires}
use Rattle.sn_sharing.specs.Bonds.{wires_at, wires_on, worker_on}
use Rattle.sn_sharing.specs.Laying.{AreLaid, new_ends}
use Rattle.sn_sharing.specs.Opened.{AreOpenedSeats, AreSilent, IsOpenedSeat, has_end_of, is_end_of, opening_tray, stops_of}
use Rattle.sn_sharing.specs.Seating.{AreSeated, IsSeatedWith}
use Rattle.sn_sharing.specs.declared.seating.Seated.{Seated}

-- WHICH ENDS A WORKER HAS, BY THE SCENARIO'S LINES

one_wire : (b : Bool) (number from : ℕ) (side s : Side) (id : LaneId) (ws : List Wire)
    → list_any (wire_is_at number s) (cond b ((from, side, id) ∷ []) [] ++ ws)
    ≡ ((b && (from == number && same_side side s)) || list_any (wire_is_at number s) ws)
one_wire true number from side s id ws = refl
one_wire false number from side s id ws = refl

none_below : (side s : Side) (worker number from : ℕ) (lanes : List Lane) (ids : List LaneId) → number < from
    → list_any (wire_is_at number s) (wires_on side worker from lanes ids) ≡ false
none_below side s worker number from [] ids below = refl
none_below side s worker number from (lane ∷ lanes) [] below = refl
none_below side s worker number from (lane ∷ lanes) (id ∷ ids) below =
    one_wire (worker_on side lane == worker) number from side s id (wires_on side worker (from + 1) lanes ids)
    ∙ by (worker_on side lane == worker) (from == number) refl
    (none_below side s worker number (from + 1) lanes ids (omega (arith, below)))
  where
    by : (a b : Bool) → (from == number) ≡ b → list_any (wire_is_at number s) (wires_on side worker (from + 1) lanes ids) ≡ false
        → ((a && (b && same_side side s)) || list_any (wire_is_at number s) (wires_on side worker (from + 1) lanes ids)) ≡ false
    by false b e rest = rest
    by true false e rest = rest
    by true true e rest = absurd (let same = eqb-true from number e in omega (arith, same, below))

-- on one side: by the line, where this is the side
wired_on : (side s : Side) (worker from : ℕ) (lanes : List Lane) (ids : List LaneId) (i : ℕ) → length ids ≡ length lanes
    → list_any (wire_is_at (from + i) s) (wires_on side worker from lanes ids)
    ≡ (is_end_of (slice_get lanes i) worker side && same_side side s)
wired_on side s worker from [] ids i e = refl
wired_on side s worker from (lane ∷ lanes) [] i e = absurd (omega (arith, e))
wired_on side s worker from (lane ∷ lanes) (id ∷ ids) zero e =
    one_wire (worker_on side lane == worker) (from + 0) from side s id (wires_on side worker (from + 1) lanes ids)
    ∙ by (worker_on side lane == worker) (same_side side s) (eq-eqb from (from + 0) (omega arith))
    (none_below side s worker (from + 0) (from + 1) lanes ids (omega arith))
  where
    by : (a c : Bool) → (from == from + 0) ≡ true
        → list_any (wire_is_at (from + 0) s) (wires_on side worker (from + 1) lanes ids) ≡ false
        → ((a && ((from == from + 0) && c)) || list_any (wire_is_at (from + 0) s) (wires_on side worker (from + 1) lanes ids))
        ≡ (a && c)
    by false c same rest = rest
    by true true same rest = rw same refl
    by true false same rest = rw same rest
wired_on side s worker from (lane ∷ lanes) (id ∷ ids) (suc i) e =
    let more : from + suc i ≡ (from + 1) + i = omega arith in
    one_wire (worker_on side lane == worker) (from + suc i) from side s id (wires_on side worker (from + 1) lanes ids)
    ∙ (by (worker_on side lane == worker) (from == from + suc i) refl
    ∙ (ap (λ n. list_any (wire_is_at n s) (wires_on side worker (from + 1) lanes ids)) more
    ∙ wired_on side s worker (from + 1) lanes ids i (omega (arith, e))))
  where
    by : (a b : Bool) → (from == from + suc i) ≡ b
        → ((a && (b && same_side side s)) || list_any (wire_is_at (from + suc i) s) (wires_on side worker (from + 1) lanes ids))
        ≡ list_any (wire_is_at (from + suc i) s) (wires_on side worker (from + 1) lanes ids)
    by false b d = refl
    by true false d = refl
    by true true d = absurd (let same = eqb-true from (from + suc i) d in omega (arith, same))

either_side : (lane : Option Lane) (worker : ℕ) (side : Side)
    → ((is_end_of lane worker Tx && same_side Tx side) || (is_end_of lane worker Rx && same_side Rx side))
    ≡ is_end_of lane worker side
either_side None worker Tx = refl
either_side None worker Rx = refl
either_side (Some lane) worker Tx = by (lane.tx == worker) (lane.rx == worker)
  where
    by : (a b : Bool) → ((a && true) || (b && false)) ≡ a
    by true b = refl
    by false true = refl
    by false false = refl
either_side (Some lane) worker Rx = by (lane.tx == worker) (lane.rx == worker)
  where
    by : (a b : Bool) → ((a && false) || (b && true)) ≡ b
    by true true = refl
    by true false = refl
    by false true = refl
    by false false = refl

pub has_by_lines : (worker : ℕ) (lanes : List Lane) (ids : List LaneId) → length ids ≡ length lanes → (number : ℕ) (side : Side)
    → has_wire (wires_at worker lanes ids) number side ≡ has_end_of lanes worker number side
has_by_lines worker lanes ids e number side =
    list_any-append (wire_is_at number side) (wires_on Tx worker 0 lanes ids) (wires_on Rx worker 0 lanes ids)
    ∙ (ap₂ (λ a b. a || b) (on_side Tx) (on_side Rx) ∙ either_side (slice_get lanes number) worker side)
  where
    on_side : (s : Side) → list_any (wire_is_at number side) (wires_on s worker 0 lanes ids)
        ≡ (is_end_of (slice_get lanes number) worker s && same_side s side)
    on_side s =
        let from : number ≡ 0 + number = omega arith in
        ap (λ n. list_any (wire_is_at n side) (wires_on s worker 0 lanes ids)) from ∙ wired_on s side worker 0 lanes ids number e

-- WHERE A WORKER BELONGS

-- a worker's interlinks stand at their numbers
pub record StandsAt (from : ℕ) (ids : List LaneId) (w : Wire) : Type 0 where
  pub place : ℕ
  pub number : w.0 ≡ from + place
  pub there : slice_get ids place ≡ Some w.2

stands_next : (from : ℕ) (id : LaneId) (ids : List LaneId) (w : Wire) → StandsAt (from + 1) ids w → StandsAt from (id ∷ ids) w
stands_next from id ids w h = record { place = suc h.place; number = omega (arith, h.number); there = h.there }

wire_stands : (side : Side) (worker from : ℕ) (lanes : List Lane) (ids : List LaneId) (k : ℕ) (w : Wire)
    → slice_get (wires_on side worker from lanes ids) k ≡ Some w → StandsAt from ids w
wire_stands side worker from [] ids k w there = absurd (let e : None ≡ Some w = there in cc)
wire_stands side worker from (lane ∷ lanes) [] k w there = absurd (let e : None ≡ Some w = there in cc)
wire_stands side worker from (lane ∷ lanes) (id ∷ ids) k w there =
    by (worker_on side lane == worker) k there (λ j e. wire_stands side worker (from + 1) lanes ids j w e)
  where
    by : (b : Bool) (j : ℕ)
        → slice_get (cond b ((from, side, id) ∷ []) [] ++ wires_on side worker (from + 1) lanes ids) j ≡ Some w
        → ((i : ℕ) → slice_get (wires_on side worker (from + 1) lanes ids) i ≡ Some w → StandsAt (from + 1) ids w)
        → StandsAt from (id ∷ ids) w
    by false j e rest = stands_next from id ids w (rest j e)
    by true zero e rest =
        let same : (from, side, id) ≡ w = some_same (from, side, id) w e in
        subst (StandsAt from (id ∷ ids)) same (record { place = 0; number = omega arith; there = refl })
    by true (suc j) e rest = stands_next from id ids w (rest j e)

in_either : (one two : List Wire) (k : ℕ) (w : Wire) → slice_get (one ++ two) k ≡ Some w
    → (slice_get one k ≡ Some w) ⊎ ((j : ℕ) × (slice_get two j ≡ Some w))
in_either [] two k w there = inr (k, there)
in_either (v ∷ one) two zero w there = inl there
in_either (v ∷ one) two (suc k) w there = in_either one two k w there

pub stands_at : (worker : ℕ) (lanes : List Lane) (ids : List LaneId) (k : ℕ) (w : Wire)
    → slice_get (wires_at worker lanes ids) k ≡ Some w → slice_get ids w.0 ≡ Some w.2
stands_at worker lanes ids k w there =
    elim (in_either (wires_on Tx worker 0 lanes ids) (wires_on Rx worker 0 lanes ids) k w there) [
      | inl tx ↦ at (wire_stands Tx worker 0 lanes ids k w tx)
      | inr rx ↦ at (wire_stands Rx worker 0 lanes ids rx.0 w rx.1)
    ]
  where
    at : StandsAt 0 ids w → slice_get ids w.0 ≡ Some w.2
    at h = let number : w.0 ≡ h.place = omega (arith, h.number) in ap (slice_get ids) number ∙ h.there

-- THE ENDS AND THE TRAY OF A WORKER

pub apart_lanes : (workers : ℕ) (lanes : List Lane) → AreLanes workers lanes → Apart lanes
apart_lanes workers lanes are = record { each = λ k lane there. (lane_there workers lanes k lane are there).apart }

pub record OfWorker (worker : ℕ) (lanes : List Lane) (ids : List LaneId) (ends : Ends) : Type 0 where
  pub tx : ends.tx.items ≡ new_ends Tx worker 0 lanes ids
  pub rx : ends.rx.items ≡ new_ends Rx worker 0 lanes ids

pub of_worker : (workers : ℕ) (lanes : List Lane) (ids : List LaneId) (all : List Ends) (worker : ℕ) (ends : Ends)
    → AreLaid workers lanes ids all → slice_get all worker ≡ Some ends → OfWorker worker lanes ids ends
of_worker workers lanes ids all worker ends h there =
    let within : worker < workers = omega (arith, slice_get_within all worker ends there, h.each_one) in
    record {
      tx = sym (column_at (λ e. e.tx.items) all worker ends [] there) ∙ h.tx worker within;
      rx = sym (column_at (λ e. e.rx.items) all worker ends [] there) ∙ h.rx worker within;
    }

pub worker_new : (worker : ℕ) (lanes : List Lane) (ids : List LaneId) (ends : Ends) → Apart lanes → OfWorker worker lanes ids ends
    → AreNew (all_ends ends.tx.items ends.rx.items)
worker_new worker lanes ids ends apart h =
    subst (λ t. AreNew (all_ends t ends.rx.items)) (sym h.tx)
    (subst (λ r. AreNew (all_ends (new_ends Tx worker 0 lanes ids) r)) (sym h.rx) (ends_new worker lanes ids apart))

module _ (form : ScenarioForm) (worker : ℕ) (ids : List LaneId) (ends : Ends) (apart : Apart form.lanes)
    (as_many : length ids ≡ length form.lanes) (h : OfWorker worker form.lanes ids ends) where
  worker_wires : wires (all_ends ends.tx.items ends.rx.items) ≡ wires_at worker form.lanes ids
  worker_wires = ap₂ (λ t r. wires (all_ends t r)) h.tx h.rx ∙ new_wires worker form.lanes ids

  has_eq : has_wire (wires (all_ends ends.tx.items ends.rx.items)) ≡ has_end_of form.lanes worker
  has_eq = ap has_wire worker_wires ∙ (λ i number side. has_by_lines worker form.lanes ids as_many number side i)

  outs_eq : ends_in (all_ends ends.tx.items ends.rx.items) ≡ (λ number side. out_end)
  outs_eq = λ i number side. new_are_out (all_ends ends.tx.items ends.rx.items)
      (worker_new worker form.lanes ids ends apart h).each number side i

  pub tray_eq : (captures : List (List ℕ))
      → new_tray (stops_of worker form.stops) (roster_of worker form) captures (all_ends ends.tx.items ends.rx.items)
      ≡ opening_tray form captures worker
  tray_eq captures =
      ap₂ (λ has outs. record {
        log = record {
          past = [];
          constants = record {
            may = λ entry. true;
            stops = stops_of worker form.stops;
            scripted = false;
            roster = roster_of worker form;
            captures = captures;
            has_end = has;
          };
        };
        gates = 0;
        free = [];
        pending = nothing;
        ends = outs;
        counters = new_counters (roster_of worker form);
        files = replicate (length form.outputs) None;
      }) has_eq outs_eq

  pub seat_opens : (shared : Shared) (channel : ChannelId) (seat : Seat) → shared.lanes.items ≡ ids
      → slice_get shared.channels.items worker ≡ Some channel → length shared.captures.items ≡ length form.captures
      → IsSeatedWith form worker ends shared.group.id channel seat → IsOpenedSeat form shared worker seat
  seat_opens shared channel seat lanes_are at captures_are s = record {
    tray = λ captures. s.tray captures ∙ tray_eq captures;
    used = s.used;
    fits = record {
      ends =
          λ k w there.
          ap (λ l. slice_get l w.0) lanes_are
          ∙ stands_at worker form.lanes ids k w
          (ap (λ l. slice_get l k) (sym (ap (λ (b : Bond). b.wiring.ends) s.bond ∙ worker_wires)) ∙ there);
      group_is = ap (λ (b : Bond). b.wiring.group) s.bond;
      channel =
          ap (slice_get shared.channels.items) (ap (λ (b : Bond). b.worker) s.bond)
          ∙ (at ∙ ap (λ (x : ChannelId). Some x) (sym (ap (λ (b : Bond). b.wiring.channel) s.bond)));
      captures_are = captures_are ∙ sym (ap (λ (b : Bond). b.captures) s.bond);
      lanes_known =
          let known : (bond_of seat).lanes ≡ length (map (λ (lane : Lane). lane.name) form.lanes) =
          ap (λ (b : Bond). b.lanes) s.bond in
          omega (arith, known, length-map form.lanes (λ (lane : Lane). lane.name), as_many, ap length lanes_are);
    };
    bond = record {
      number = ap (λ (b : Bond). b.worker) s.bond;
      ends = ap (λ (b : Bond). b.wiring.ends) s.bond ∙ (worker_wires ∙ ap (wires_at worker form.lanes) (sym lanes_are));
      group_is = ap (λ (b : Bond). b.wiring.group) s.bond;
      channel = at ∙ ap (λ (x : ChannelId). Some x) (sym (ap (λ (b : Bond). b.wiring.channel) s.bond));
      captures_are = ap (λ (b : Bond). b.captures) s.bond ∙ sym captures_are;
      lanes_are = ap (λ (b : Bond). b.lanes) s.bond ∙ length-map form.lanes (λ (lane : Lane). lane.name);
    };
    unmet = ap (λ (b : Bond). b.wiring.met) s.bond;
  }

-- ALL WORKERS

pub all_open : (form : ScenarioForm) (shared : Shared) (all : List Ends) (seated : Seated)
    → AreLanes form.settings.workers form.lanes → AreLaid form.settings.workers form.lanes shared.lanes.items all
    → AreSeated form all shared.group.id seated → seated.channels.items ≡ shared.channels.items
    → length shared.captures.items ≡ length form.captures → AreOpenedSeats form shared seated.seats.items
all_open form shared all seated are laid s channels_are captures_are = record {
  as_many = s.as_many ∙ laid.each_one;
  each =
      λ worker seat there.
      let within = slice_get_within seated.seats.items worker seat there in
      let e = row_there all worker (omega (arith, within, s.as_many)) in
      let c = row_there seated.channels.items worker (omega (arith, within, s.channels)) in
      seat_opens form worker shared.lanes.items e.row (apart_lanes form.settings.workers form.lanes are) laid.as_many
      (of_worker form.settings.workers form.lanes shared.lanes.items all worker e.row laid e.there) shared c.row seat refl
      (ap (λ l. slice_get l worker) (sym channels_are) ∙ c.there) captures_are
      (s.each worker seat c.row e.row there c.there e.there);
}

pub all_silent : (form : ScenarioForm) (all : List Ends) (of : GroupId) (seated : Seated) → AreSeated form all of seated
    → AreSilent seated.speakers.items seated.channels.items
all_silent form all of seated s = record {
  of =
      ap (map (λ (speaker : SpeakerLog). speaker.channel)) s.speakers
      ∙ (map_twice (λ channel. speaker_log channel []) (λ (speaker : SpeakerLog). speaker.channel) seated.channels.items
      ∙ map-id seated.channels.items);
  said =
      λ worker speaker there.
      let row = from_row (λ channel. speaker_log channel []) seated.channels.items worker speaker
      (ap (λ l. slice_get l worker) (sym s.speakers) ∙ there) in
      ap (λ (x : SpeakerLog). x.said) (sym row.is);
}
